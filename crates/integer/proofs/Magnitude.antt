-- Laws of magnitudes and signs: how large a negation, a sum and a product are at most; that a number of small size passes through a machine word
-- unchanged; and what the order says of the sign. Assumes nothing.
use mathlib.Core.Path.{◌≡◌, refl}
use mathlib.Core.Bool.{Bool, true, false, cond}
use Prim.Native.Nat.{ℕ, zero, suc, ◌+◌, ◌*◌, ◌-◌, ◌^◌, ◌≤◌, ◌<◌}
use native.Mathlib.Nat.{le_refl, le_trans, le_of_eq, le_of_lt, lt_of_le_of_lt, add-le-add, mul-le-mul, not-suc-le-zero}
use native.Mathlib.Omega.{arith}
use lib.Dec.{T, leb, ltb, leb→le}
use lib.IntN.{ℤ, pos, negsuc, nat_abs, neg_ℤ, ◌+ℤ◌, ◌-ℤ◌, ◌*ℤ◌}
use lib.Signed.{mag, nat_abs-le, lt_z, ◌<ℤ◌, ◌≤ℤ◌}
use mir.Syntax.{Width}
use mir.Val.{Fits, SFits, bits, hbits, to_z, of_z}
use mir.ValLaws.{to_z-of_z}
use Rattle.integer.specs.Magnitude.{Within, sign_of}

-- ---- sizes
pub size_negation : (z : ℤ) → nat_abs (neg_ℤ z) ≡ nat_abs z
size_negation (pos zero) = refl
size_negation (pos (suc n)) = refl
size_negation (negsuc n) = refl

-- a − (b + 1), whichever way the comparison of the two went
size_difference : (t : Bool) (a b : ℕ) → nat_abs (cond t (negsuc (suc b - suc a)) (pos (a - suc b))) ≤ a + suc b
size_difference true a b = omega arith
size_difference false a b = omega arith

size_sum : (x y : ℤ) → nat_abs (x +ℤ y) ≤ nat_abs x + nat_abs y
size_sum (pos a) (pos b) = le_refl (a + b)
size_sum (pos a) (negsuc b) = size_difference (ltb a (suc b)) a b
size_sum (negsuc a) (pos b) = omega (arith, size_difference (ltb b (suc a)) b a)
size_sum (negsuc a) (negsuc b) = omega arith

pub size_product : (x y : ℤ) → nat_abs (x *ℤ y) ≡ nat_abs x * nat_abs y
size_product (pos a) (pos b) = refl
size_product (pos a) (negsuc b) = size_negation (pos (a * suc b))
size_product (negsuc a) (pos b) = size_negation (pos (suc a * b))
size_product (negsuc a) (negsuc b) = refl

-- a positive number is its size
pub size_positive : {z : ℤ} → pos 0 <ℤ z → z ≡ pos (nat_abs z)
size_positive {z} h = go z h.lt
  where
    go : (z : ℤ) → T (lt_z (pos 0) z) → z ≡ pos (nat_abs z)
    go (pos n) t = refl
    go (negsuc n) t = absurd t

-- ---- bounds
pub within_self : (z : ℤ) → Within (nat_abs z) z
within_self z = record { within = le_refl (nat_abs z) }

-- a literal: `within_literal tt`
pub within_literal : {n : ℕ} {z : ℤ} → T (leb (nat_abs z) n) → Within n z
within_literal {n} {z} t = record { within = leb→le (nat_abs z) n t }

pub within_more : {n m : ℕ} {z : ℤ} → Within n z → n ≤ m → Within m z
within_more h k = record { within = le_trans h.within k }

pub within_negation : {n : ℕ} {z : ℤ} → Within n z → Within n (neg_ℤ z)
within_negation {z = z} h = record { within = le_trans (le_of_eq (size_negation z)) h.within }

pub within_sum : {n m : ℕ} {x y : ℤ} → Within n x → Within m y → Within (n + m) (x +ℤ y)
within_sum {x = x} {y = y} h k = record { within = le_trans (size_sum x y) (add-le-add h.within k.within) }

pub within_difference : {n m : ℕ} {x y : ℤ} → Within n x → Within m y → Within (n + m) (x -ℤ y)
within_difference h k = within_sum h (within_negation k)

pub within_product : {n m : ℕ} {x y : ℤ} → Within n x → Within m y → Within (n * m) (x *ℤ y)
within_product {x = x} {y = y} h k =
    record { within = le_trans (le_of_eq (size_product x y)) (mul-le-mul h.within k.within) }

-- ---- machine words
mag_size : (z : ℤ) → mag z ≤ nat_abs z
mag_size (pos n) = le_refl n
mag_size (negsuc n) = omega arith

pub within_fits : {w : Width} {n : ℕ} {z : ℤ} → Within n z → n < 2 ^ hbits w → SFits w z
within_fits {z = z} h k = record { sfits = lt_of_le_of_lt (le_trans (mag_size z) h.within) k }

pub within_stored : (w : Width) {n : ℕ} {z : ℤ} → Within n z → n < 2 ^ hbits w → to_z w (of_z w z) ≡ z
within_stored w {z = z} h k = to_z-of_z w z (within_fits h k)

-- a number of a signed type, and of an unsigned one
pub within_signed : {w : Width} {z : ℤ} → SFits w z → Within (2 ^ hbits w) z
within_signed {z = z} f = record { within = nat_abs-le z f.sfits }

pub within_unsigned : {w : Width} {n : ℕ} → Fits w n → Within (2 ^ bits w) (pos n)
within_unsigned f = record { within = le_of_lt f.fits }

-- ---- signs
pub sign_negative : {z : ℤ} → z <ℤ pos 0 → sign_of z ≡ negsuc 0
unfolding sign_of
sign_negative {z = pos zero} h = absurd h.lt
sign_negative {z = pos (suc n)} h = absurd (not-suc-le-zero (leb→le (suc (suc n)) 0 h.lt))
sign_negative {z = negsuc n} h = refl

pub sign_positive : {z : ℤ} → pos 0 <ℤ z → sign_of z ≡ pos 1
unfolding sign_of
sign_positive {z = pos zero} h = absurd h.lt
sign_positive {z = pos (suc n)} h = refl
sign_positive {z = negsuc n} h = absurd h.lt

pub sign_zero : {z : ℤ} → z ≤ℤ pos 0 → pos 0 ≤ℤ z → sign_of z ≡ pos 0
unfolding sign_of
sign_zero {z = pos zero} h k = refl
sign_zero {z = pos (suc n)} h k = absurd (not-suc-le-zero (leb→le (suc n) 0 h.le))
sign_zero {z = negsuc n} h k = absurd k.le
