-- Machine arithmetic by reflection. A need of a function over signed numbers speaks of what the machine computes, where each
-- intermediate result passes through a word, `to_z w (of_z w z)`. `search machine` reads such a number as a value of `Computed`; from that the
-- number that was meant and a bound on its size are computed, so that a need is one test of numerals:
--     an overflow need, `SFits w z`                  no_overflow (search machine depth 40 fits 20000, tt)
--     a result's equation, `z ≡ v`                   exact w64 (search machine depth 40 fits 20000, tt, refl)
--     a bound, `Within n z`                          magnitude w64 (search machine depth 40 fits 20000, tt, tt)
--     a callee's bound, `nat_abs z * .. < 2 ^ 63`     room w64 (search machine depth 40 fits 20000, tt)
-- Where unsigned or narrower numbers are cast, it is `search (machine, casts)`; after calls `search (machine, result)`.
-- The search's result and its test are one tuple, so that the test is computed after the search. Assumes nothing.
use mathlib.Core.Path.{◌≡◌, refl, sym, ◌∙◌, ap, ap₂, subst}
use Prim.Native.Nat.{ℕ, suc, ◌+◌, ◌*◌, ◌^◌, ◌≤◌, ◌<◌, max}
use native.Mathlib.Nat.{add-le-add, mul-le-mul, lt_of_le_of_lt}
use native.Mathlib.Omega.{arith}
use lib.Dec.{T, leb, ltb, leb→le, ltb→lt}
use lib.IntN.{ℤ, pos, negsuc, nat_abs, neg_ℤ, ◌+ℤ◌, ◌*ℤ◌, +ℤ_idl}
use mir.Syntax.{Width}
use mir.Val.{Fits, SFits, bits, hbits, to_z, of_z}
use mir.ValLaws.{to_z-of_z, to_z_pos}
use borrow.Author.Rules.{sfits_of}
use Rattle.integer.specs.Magnitude.{Within}
use Rattle.integer.proofs.Magnitude.{within_self, within_more, within_negation, within_sum, within_product, within_fits, within_stored, within_signed, within_unsigned}

-- How the machine came by a number. `opposite` is its negation, which it computes as a difference; `counted` is an unsigned number that was
-- cast, and `narrow` a signed one; `result` is what a call returned, by the equation that the callee ensures; `word` is a number of unknown size.
pub data Computed (w : Width) : ℤ → Type 0 where
  known : {n : ℕ} {z : ℤ} → Within n z → Computed w z
  positive : (n : ℕ) → Computed w (pos n)
  negative : (n : ℕ) → Computed w (negsuc n)
  negation : (x : ℤ) → Computed w x → Computed w (neg_ℤ x)
  opposite : (x : ℤ) → Computed w x → Computed w (pos 0 +ℤ neg_ℤ x)
  sum : (x y : ℤ) → Computed w x → Computed w y → Computed w (x +ℤ y)
  product : (x y : ℤ) → Computed w x → Computed w y → Computed w (x *ℤ y)
  stored : (x : ℤ) → Computed w x → Computed w (to_z w (of_z w x))
  counted : {b : ℕ} (n : ℕ) → Within b (pos n) → Computed w (to_z w n)
  result : {x y : ℤ} → x ≡ y → Computed w y → Computed w x
  narrow : (v : Width) (x : ℤ) → T (ltb (hbits v) (hbits w)) → SFits v x → Computed w (to_z v (of_z v x))
  word : (x : ℤ) → SFits w x → Computed w (to_z w (of_z w x))

-- a number of a narrower unsigned type
abbrev pub natural : {v w : Width} (n : ℕ) → Fits v n → T (ltb (bits v) (bits w)) → Computed w (to_z w n)
natural n f t = counted n (within_unsigned f)

-- the number that was meant
abbrev pub ideal : {w : Width} {z : ℤ} → Computed w z → ℤ
ideal (known {z = z} h) = z
ideal (positive n) = pos n
ideal (negative n) = negsuc n
ideal (negation x m) = neg_ℤ (ideal m)
ideal (opposite x m) = neg_ℤ (ideal m)
ideal (sum x y l m) = ideal l +ℤ ideal m
ideal (product x y l m) = ideal l *ℤ ideal m
ideal (stored x m) = ideal m
ideal (counted n h) = pos n
ideal (result e m) = ideal m
ideal (narrow v x t f) = x
ideal (word x f) = x

-- a bound on its size
abbrev pub bound : {w : Width} {z : ℤ} → Computed w z → ℕ
bound (known {n = n} h) = n
bound (positive n) = n
bound (negative n) = suc n
bound (negation x m) = bound m
bound (opposite x m) = bound m
bound (sum x y l m) = bound l + bound m
bound (product x y l m) = bound l * bound m
bound (stored x m) = bound m
bound (counted {b = b} n h) = b
bound (result e m) = bound m
bound (narrow v x t f) = 2 ^ hbits v
bound (word x f) = nat_abs x

-- the largest of k and the bounds of what passed through words
abbrev pub peak : {w : Width} {z : ℤ} → Computed w z → ℕ → ℕ
peak (known h) k = k
peak (positive n) k = k
peak (negative n) k = k
peak (negation x m) k = peak m k
peak (opposite x m) k = peak m k
peak (sum x y l m) k = peak l (peak m k)
peak (product x y l m) k = peak l (peak m k)
peak (stored x m) k = peak m (max (bound m) k)
peak (counted {b = b} n h) k = max b k
peak (result e m) k = peak m k
peak (narrow v x t f) k = k
peak (word x f) k = k

record Sound {w : Width} {z : ℤ} (m : Computed w z) (k : ℕ) : Type 0 where
  same : z ≡ ideal m
  size : Within (bound m) (ideal m)
  rest : k < 2 ^ hbits w

-- where the peak is below half the words, no word changed the number that it was given
sound : {w : Width} {z : ℤ} (m : Computed w z) (k : ℕ) → peak m k < 2 ^ hbits w → Sound m k
sound (known h) k t = record { same = refl; size = h; rest = t }
sound (positive n) k t = record { same = refl; size = within_self (pos n); rest = t }
sound (negative n) k t = record { same = refl; size = within_self (negsuc n); rest = t }
sound (negation x m) k t =
    let s = sound m k t in
    record { same = ap neg_ℤ s.same; size = within_negation s.size; rest = s.rest }
sound (opposite x m) k t =
    let s = sound m k t in
    record { same = +ℤ_idl (neg_ℤ x) ∙ ap neg_ℤ s.same; size = within_negation s.size; rest = s.rest }
sound (sum x y l m) k t =
    let s = sound l (peak m k) t in
    let u = sound m k s.rest in
    record { same = ap₂ ◌+ℤ◌ s.same u.same; size = within_sum s.size u.size; rest = u.rest }
sound (product x y l m) k t =
    let s = sound l (peak m k) t in
    let u = sound m k s.rest in
    record { same = ap₂ ◌*ℤ◌ s.same u.same; size = within_product s.size u.size; rest = u.rest }
sound {w} (stored x m) k t =
    let s = sound m (max (bound m) k) t in
    let e = within_stored w s.size (omega (arith, s.rest)) in
    record { same = ap (λ (v : ℤ). to_z w (of_z w v)) s.same ∙ e; size = s.size; rest = omega (arith, s.rest) }
sound {w} (counted {b = b} n h) k t =
    record { same = to_z_pos w n (lt_of_le_of_lt h.within (omega arith)); size = h; rest = omega arith }
sound (result e m) k t =
    let s = sound m k t in
    record { same = e ∙ s.same; size = s.size; rest = s.rest }
sound (narrow v x u f) k t = record { same = to_z-of_z v x f; size = within_signed f; rest = t }
sound {w} (word x f) k t = record { same = to_z-of_z w x f; size = within_self x; rest = t }

pub no_overflow : {w : Width} {z : ℤ} → (m : Computed w z) × T (ltb (peak m (bound m)) (2 ^ hbits w)) → SFits w z
no_overflow {w} (m, t) =
    let s = sound m (bound m) (ltb→lt (peak m (bound m)) (2 ^ hbits w) t) in
    subst (SFits w) (sym s.same) (within_fits s.size s.rest)

pub exact : (w : Width) {z v : ℤ} → (m : Computed w z) × T (ltb (peak m 0) (2 ^ hbits w)) × (ideal m ≡ v) → z ≡ v
exact w (m, t, e) = (sound m 0 (ltb→lt (peak m 0) (2 ^ hbits w) t)).same ∙ e

pub magnitude : (w : Width) {n : ℕ} {z : ℤ} → (m : Computed w z) × T (ltb (peak m 0) (2 ^ hbits w)) × T (leb (bound m) n) → Within n z
magnitude w {n} (m, t, u) =
    let s = sound m 0 (ltb→lt (peak m 0) (2 ^ hbits w) t) in
    subst (Within n) (sym s.same) (within_more s.size (leb→le (bound m) n u))

-- ---- sums and products of sizes, as the contracts of this crate's functions bound them
pub data Sizes (w : Width) : ℕ → Type 0 where
  size : (z : ℤ) → Computed w z → Sizes w (nat_abs z)
  plus : (a b : ℕ) → Sizes w a → Sizes w b → Sizes w (a + b)
  times : (a b : ℕ) → Sizes w a → Sizes w b → Sizes w (a * b)

abbrev pub limit : {w : Width} {n : ℕ} → Sizes w n → ℕ
limit (size z m) = bound m
limit (plus a b s t) = limit s + limit t
limit (times a b s t) = limit s * limit t

abbrev pub peaks : {w : Width} {n : ℕ} → Sizes w n → ℕ → ℕ
peaks (size z m) k = peak m k
peaks (plus a b s t) k = peaks s (peaks t k)
peaks (times a b s t) k = peaks s (peaks t k)

record Limited {w : Width} {n : ℕ} (s : Sizes w n) (k : ℕ) : Type 0 where
  under : n ≤ limit s
  rest : k < 2 ^ hbits w

limited : {w : Width} {n : ℕ} (s : Sizes w n) (k : ℕ) → peaks s k < 2 ^ hbits w → Limited s k
limited (size z m) k t =
    let s = sound m k t in
    record { under = (subst (Within (bound m)) (sym s.same) s.size).within; rest = s.rest }
limited (plus a b s u) k t =
    let l = limited s (peaks u k) t in
    let m = limited u k l.rest in
    record { under = add-le-add l.under m.under; rest = m.rest }
limited (times a b s u) k t =
    let l = limited s (peaks u k) t in
    let m = limited u k l.rest in
    record { under = mul-le-mul l.under m.under; rest = m.rest }

pub room : (w : Width) {n : ℕ} → (s : Sizes w n) × T (ltb (peaks s (limit s)) (2 ^ hbits w)) → n < 2 ^ hbits w
room w (s, t) =
    let l = limited s (limit s) (ltb→lt (peaks s (limit s)) (2 ^ hbits w) t) in
    lt_of_le_of_lt l.under l.rest

-- ---- what `search` goes by. The sets are small, since each rule is held against every fact in reach
-- `opposite` stands before `sum`, which fits whatever it fits
pub ruleset operations = (positive, negative, opposite, negation, sum, product, stored)

-- every number has a known bound
pub ruleset machine = (known, operations, size, plus, times)

-- beside it, for casts
pub ruleset casts = (counted, natural, narrow, sfits_of, tt)

-- in its place, where the parameters' sizes are unknown: the test is then proved, by `omega (arith, lt→ltb)`, and not computed
pub ruleset words = (word, operations)
