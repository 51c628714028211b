-- How long numbers and lines are.
use mathlib.Core.Path.{◌≡◌, refl}
use mathlib.Core.Bool.{Bool, true, false, cond}
use mathlib.Core.List.{List, [], ◌∷◌}
use Prim.Native.Nat.{ℕ, zero, suc, ◌+◌, ◌/◌, ◌^◌, ◌≤◌, ◌<◌}
use native.Mathlib.Nat.{pow-suc, div-lt_iff_lt-mul}
use native.Mathlib.Omega.{arith}
use lib.Dec.{ltb}
use lib.ListN.{length, length-append}
use borrow.Author.Tests.{ltb-false}
use Rattle.text.specs.Text.{digit, digits_within, decimal, spaced, numbers, line}

-- a number below a power of ten has at most that many digits
digits_length : (k m n : ℕ) → n < 10 ^ suc m → length (digits_within k n) ≤ suc m
unfolding digits_within
digits_length zero m n h = omega arith
digits_length (suc k) m n h = go m _ (simp length-append (omega arith)) (ltb n 10) refl h (λ (j : ℕ) (l : n / 10 < 10 ^ suc j). digits_length k j (n / 10) l)
  where
    -- the digits of a tenth, and one more, wherever it stands
    go :
        (m : ℕ) (digits : List ℕ) →
        length digits ≤ 1 + length (digits_within k (n / 10)) →
        (b : Bool) →
        ltb n 10 ≡ b →
        n < 10 ^ suc m →
        ((j : ℕ) → n / 10 < 10 ^ suc j → length (digits_within k (n / 10)) ≤ suc j) →
        length (cond b (digit n ∷ []) digits) ≤ suc m
    go m digits one true e h fewer = omega arith
    go zero digits one false e h fewer = absurd (omega (arith, ltb-false n 10 e))
    go (suc m) digits one false e h fewer =
        omega (arith, one, fewer m ((div-lt_iff_lt-mul (omega arith)).1 (rw (pow-suc 10 (suc m)) at h)))

-- a number of 32 bits has at most ten digits
pub decimal_length : (n : ℕ) → n < 2 ^ 32 → length (decimal n) ≤ 10
unfolding decimal
decimal_length n h = digits_length (suc n) 9 n (omega arith)

pub newline_length : length (numbers []) ≡ 1
unfolding numbers
newline_length = refl

-- and, after a space, at most eleven bytes
pub spaced_length : (n : ℕ) → n < 2 ^ 32 → length (spaced n) ≤ 11
unfolding spaced
spaced_length n h = omega (arith, decimal_length n h)

pub numbers_length : (n : ℕ) (ns : List ℕ) → n < 2 ^ 32 → length (numbers (n ∷ ns)) ≤ 11 + length (numbers ns)
unfolding numbers
numbers_length n ns h = omega (arith, length-append (spaced n) (numbers ns), spaced_length n h)

-- a line of a name and one such number
pub line_length : (name : List ℕ) (n : ℕ) → n < 2 ^ 32 → length (line name (n ∷ [])) ≤ length name + 12
unfolding line
line_length name n h = omega (arith, length-append name (numbers (n ∷ [])), numbers_length n [] h, newline_length)
