-- The fields of a double's bits, and its whole number of units by them.
use mathlib.Core.Path.{◌≡◌, refl, sym, ap, ◌∙◌, subst}
use mathlib.Core.Bool.{Bool, true, false, cond}
use mathlib.Core.Option.{some}
use Prim.Native.Nat.{ℕ, zero, suc, ◌+◌, ◌-◌, ◌*◌, ◌^◌, ◌≤◌, ◌<◌}
use native.Mathlib.Nat.{mul_assoc, mul-le-mul_left, mul-le-mul_right, le_trans, le_of_eq, lt_of_le_of_lt, lt_of_lt_of_le}
use native.Mathlib.Omega.{arith}
use lib.Dec.{T, eqb, lit≤}
use lib.Pow.{pow_pos, pow_mono, pow-add, shl_lt}
use lib.Ieee.{Float, nan, inf, fin, binary64, of_fields, odd, up, down}
use lib.Ieee.Exact.{HasValue, odd_sign}
use lib.Ieee.Fits.{down_pos}
use borrow.Author.Tests.{ne_eqb}
use Rattle.model.specs.Station.{nearest_whole, signed, whole_units}
use Rattle.station.specs.Bits.{digits, size_units}
use Rattle.station.proofs.Rounding.{same_fraction, below_half, at_least}

-- a value's whole number by any fraction that is the value
by_value : (x : Float) (s : Bool) (a c : ℕ) → 0 < c → HasValue x s a c → whole_units x ≡ some (signed s (nearest_whole (200 * a) c))
unfolding whole_units
by_value nan s a c p h = absurd h
by_value (inf t) s a c p h = absurd h
by_value (fin t m e) s a c p h =
    rw (h.0, same_fraction (200 * (m * up e)) (down e) (200 * a) c (down_pos e) p (mul_assoc 200 (m * up e) c ∙ ap (λ (k : ℕ). 200 * k) h.1 ∙ sym (mul_assoc 200 a (down e))))

-- the value of a finite double by its fields
by_fields : (s : Bool) (e t : ℕ) → e < 2047 → HasValue (of_fields binary64 s e t) s (digits e t * 2 ^ (e - 1)) (2 ^ 1074)
unfolding of_fields
by_fields s zero t h = odd_sign 53 s t 0 1074
by_fields s (suc e) t h =
    let p : suc e - 1 ≡ e = omega arith in
    rw p (go (eqb (suc e) 2047) (ne_eqb (suc e) 2047 (λ q. omega arith)))
  where
    go : (b : Bool) → b ≡ false → HasValue (cond b (cond (eqb t 0) (inf s) nan) (odd 53 s (2 ^ 52 + t) e 1074)) s ((2 ^ 52 + t) * 2 ^ e) (2 ^ 1074)
    go true q = absurd (subst T q tt)
    go false q = odd_sign 53 s (2 ^ 52 + t) e 1074

pub units_by_fields : (s : Bool) (e t : ℕ) → e < 2047 → whole_units (of_fields binary64 s e t) ≡ some (signed s (size_units e t))
units_by_fields s e t h =
    by_value (of_fields binary64 s e t) s (digits e t * 2 ^ (e - 1)) (2 ^ 1074) (pow_pos 1074) (by_fields s e t h)

-- ---- the size by the field's range
digits_at : (e t : ℕ) → 1 ≤ e → digits e t ≡ 2 ^ 52 + t
digits_at zero t h = absurd (omega arith)
digits_at (suc e) t h = refl

digits_below : (e t : ℕ) → t < 2 ^ 52 → digits e t < 2 ^ 53
digits_below zero t h = omega arith
digits_below (suc e) t h = omega arith

-- from 64 metres on the size is above 10,000
large : (e t : ℕ) → 1029 ≤ e → 12800 * 2 ^ 1074 ≤ 200 * (digits e t * 2 ^ (e - 1))
large e t h =
    le_trans (le_of_eq (mul_assoc 200 64 (2 ^ 1074) ∙ ap (λ (k : ℕ). 200 * k) (sym (pow-add 2 6 1074))))
    (mul-le-mul_left 200
    (le_trans (pow_mono {i = 1080} {j = 52 + (e - 1)} (omega arith))
    (le_trans (le_of_eq (pow-add 2 52 (e - 1))) (mul-le-mul_right (2 ^ (e - 1)) (rw (digits_at e t (omega arith)) (omega arith))))))

pub from_64 : (e t : ℕ) → 1029 ≤ e → 10000 < size_units e t
from_64 e t h = le_trans (lit≤ tt) (at_least 12800 (200 * (digits e t * 2 ^ (e - 1))) (2 ^ 1074) (pow_pos 1074) (large e t h))

-- below 2 ^ -9 metres it is 0
small : (e t : ℕ) → t < 2 ^ 52 → e < 1014 → 200 * (digits e t * 2 ^ (e - 1)) * 2 < 2 ^ 1074
small e t l h =
    let d = digits_below e t l in
    let r : 200 * (digits e t * 2 ^ (e - 1)) * 2 ≡ 400 * digits e t * 2 ^ (e - 1) = omega (arith, mul_assoc 400 (digits e t) (2 ^ (e - 1))) in
    let s : 400 * digits e t * 2 ^ (e - 1) < 2 ^ (62 + (e - 1)) = shl_lt 62 (e - 1) (omega arith) in
    lt_of_lt_of_le (lt_of_le_of_lt (le_of_eq r) s) (pow_mono {i = 62 + (e - 1)} {j = 1074} (omega arith))

pub tiny : (e t : ℕ) → t < 2 ^ 52 → e < 1014 → 0 ≡ size_units e t
tiny e t l h = below_half (200 * (digits e t * 2 ^ (e - 1))) (2 ^ 1074) (small e t l h)

-- between them the digits are shifted by what is left of the exponent
pub shifted : (e t : ℕ) → 1014 ≤ e → e < 1029 → nearest_whole (200 * (t + 2 ^ 52)) (2 ^ (1075 - e)) ≡ size_units e t
shifted e t l h =
    let d : t + 2 ^ 52 ≡ digits e t = sym (digits_at e t (omega arith) ∙ omega arith) in
    let q : 1074 ≡ e - 1 + (1075 - e) = omega arith in
    let k : 2 ^ 1074 ≡ 2 ^ (e - 1) * 2 ^ (1075 - e) = ap (λ (n : ℕ). 2 ^ n) q ∙ pow-add 2 (e - 1) (1075 - e) in
    same_fraction (200 * (t + 2 ^ 52)) (2 ^ (1075 - e)) (200 * (digits e t * 2 ^ (e - 1))) (2 ^ 1074) (pow_pos (1075 - e)) (pow_pos 1074)
    (ap (λ (n : ℕ). 200 * n * 2 ^ 1074) d
    ∙ ap (λ (n : ℕ). 200 * digits e t * n) k
    ∙ sym (mul_assoc (200 * digits e t) (2 ^ (e - 1)) (2 ^ (1075 - e)))
    ∙ ap (λ (n : ℕ). n * 2 ^ (1075 - e)) (mul_assoc 200 (digits e t) (2 ^ (e - 1))))
