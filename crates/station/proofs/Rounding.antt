-- Rounding a fraction to the nearest whole number: equal fractions give one number, and the code's way by shifts.
use mathlib.Core.Path.{◌≡◌, refl, sym, ap, ◌∙◌, subst}
use mathlib.Core.Bool.{cond}
use Prim.Native.Nat.{ℕ, suc, ◌+◌, ◌-◌, ◌*◌, ◌/◌, ◌%◌, ◌^◌, ◌≤◌, ◌<◌, compare, Ordering}
use native.Mathlib.Nat.{div-add-mod', mod-eq_of_lt, div-eq_of_lt, div-mul-le_self, pow-suc, le_trans, le-div_iff_mul-le}
use native.Mathlib.Numerals.{add-one}
use native.Mathlib.Omega.{arith}
use lib.Dec.{is_le, compare_is_eq, ltb}
use lib.Arith.{lt_of_le-ne}
use lib.Pow.{pow-lt, shr_le}
use lib.Ieee.{nearest}
use lib.Ieee.Nearest.{closest, closest_same, nearest-ge}
use borrow.Author.Tests.{lt-ltb, le-ltb, leb-true, leb-false, eqb-true, eqb-false}
use Rattle.model.specs.Station.{nearest_whole}

-- what a comparison says of two numbers
abbrev Compared : Ordering → ℕ → ℕ → Type 0
Compared Ordering.lt a b = a < b
Compared Ordering.eq a b = a ≡ b
Compared Ordering.gt a b = b < a

compared : (a b : ℕ) → Compared (compare a b) a b
compared a b = read (compare a b) refl
  where
    read : (o : Ordering) → compare a b ≡ o → Compared o a b
    read Ordering.lt e = lt_of_le-ne (leb-true a b (ap is_le e)) (eqb-false a b (ap compare_is_eq e))
    read Ordering.eq e = eqb-true a b (ap compare_is_eq e)
    read Ordering.gt e = leb-false a b (ap is_le e)

-- the nearest number, by a quotient, twice the remainder and the divisor
abbrev by_tests : ℕ → ℕ → ℕ → ℕ
by_tests q r b = cond (ltb r b) q (cond (ltb b r) (q + 1) (q + q % 2))

by_less : (q r b : ℕ) → r < b → q ≡ by_tests q r b
by_less q r b h = rw (lt-ltb r b h)

by_more : (q r b : ℕ) → b < r → q + 1 ≡ by_tests q r b
by_more q r b h = rw (le-ltb r b (omega arith), lt-ltb b r h)

by_level : (q r b : ℕ) → r ≡ b → q + q % 2 ≡ by_tests q r b
by_level q r b e = rw (le-ltb r b (omega arith), le-ltb b r (omega arith))

nearest_is : (q r b : ℕ) (o : Ordering) → Compared o r b → nearest q o ≡ by_tests q r b
nearest_is q r b Ordering.lt h = by_less q r b h
nearest_is q r b Ordering.eq h = by_level q r b h
nearest_is q r b Ordering.gt h = sym (add-one q) ∙ by_more q r b h

-- it is what the kit's rounding of doubles calls the closest
closest_is : (a b : ℕ) → closest a b ≡ nearest_whole a b
unfolding nearest_whole
closest_is a b = nearest_is (a / b) (a % b * 2) b (compare (a % b * 2) b) (compared (a % b * 2) b)

-- equal fractions give one number
pub same_fraction : (a b c d : ℕ) → 0 < b → 0 < d → a * d ≡ c * b → nearest_whole a b ≡ nearest_whole c d
same_fraction a b c d p q e = sym (closest_is a b) ∙ closest_same a b c d p q e ∙ closest_is c d

-- a fraction below a half gives 0
pub below_half : (a b : ℕ) → a * 2 < b → 0 ≡ nearest_whole a b
unfolding nearest_whole
below_half a b h =
    let q : a / b ≡ 0 = div-eq_of_lt (omega arith) in
    let r : a % b ≡ a = mod-eq_of_lt (omega arith) in
    rw (q, r, lt-ltb (a * 2) b h)

-- a whole part is not passed downwards
pub at_least : (n a b : ℕ) → 0 < b → n * b ≤ a → n ≤ nearest_whole a b
at_least n a b p h = subst (λ (x : ℕ). n ≤ x) (closest_is a b) (le_trans ((le-div_iff_mul-le p).1 h) (nearest-ge (a / b) (compare (a % b * 2) b)))

-- ---- the code's shifts
module _ (p s : ℕ) (small : p < 2 ^ 61) (low : 1 ≤ s) (high : s ≤ 61) where
  whole_le : p / 2 ^ s * 2 ^ s ≤ p
  whole_le = div-mul-le_self p (2 ^ s)

  shifted_back : (p / 2 ^ s * 2 ^ s) % 2 ^ 64 ≡ p / 2 ^ s * 2 ^ s
  shifted_back = mod-eq_of_lt (omega (arith, whole_le))

  pub back_le : (p / 2 ^ s * 2 ^ s) % 2 ^ 64 ≤ p
  back_le = rw shifted_back whole_le

  rest_is : p - (p / 2 ^ s * 2 ^ s) % 2 ^ 64 ≡ p % 2 ^ s
  rest_is = rw shifted_back (omega (arith, div-add-mod' p (2 ^ s)))

  doubled : 2 ^ s ≡ 2 ^ (s - 1) * 2
  doubled = let e : s ≡ suc (s - 1) = omega arith in ap (λ (k : ℕ). 2 ^ k) e ∙ pow-suc 2 (s - 1)

  half_is : (1 * 2 ^ (s - 1)) % 2 ^ 64 ≡ 2 ^ (s - 1)
  half_is = let l : 2 ^ (s - 1) < 2 ^ 64 = pow-lt {i = s - 1} {j = 64} (omega arith) in ap (λ (k : ℕ). k % 2 ^ 64) (omega arith) ∙ mod-eq_of_lt l

  pub whole_small : p / 2 ^ s < 2 ^ 61
  whole_small = omega (arith, shr_le p s)

  module _ (r h : ℕ) (rest : r ≡ p - (p / 2 ^ s * 2 ^ s) % 2 ^ 64) (half : h ≡ (1 * 2 ^ (s - 1)) % 2 ^ 64) where
    rest' : r ≡ p % 2 ^ s
    rest' = rest ∙ rest_is

    half' : h * 2 ≡ 2 ^ s
    half' = ap (λ (k : ℕ). k * 2) (half ∙ half_is) ∙ sym doubled

    pub under_half : r < h → p / 2 ^ s ≡ nearest_whole p (2 ^ s)
    unfolding nearest_whole
    under_half l = by_less (p / 2 ^ s) (p % 2 ^ s * 2) (2 ^ s) (omega (arith, rest', half'))

    pub over_half : h < r → p / 2 ^ s + 1 ≡ nearest_whole p (2 ^ s)
    unfolding nearest_whole
    over_half l = by_more (p / 2 ^ s) (p % 2 ^ s * 2) (2 ^ s) (omega (arith, rest', half'))

    pub at_half : h ≤ r → r ≤ h → p / 2 ^ s + p / 2 ^ s % 2 ≡ nearest_whole p (2 ^ s)
    unfolding nearest_whole
    at_half l u = by_level (p / 2 ^ s) (p % 2 ^ s * 2) (2 ^ s) (omega (arith, rest', half'))
