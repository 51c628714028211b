-- Decimal numbers, digit by digit, and as std writes them.
use mathlib.Core.Path.{◌≡◌, refl, ap, ap₂, ◌∙◌}
use mathlib.Core.Bool.{Bool, true, false, cond}
use mathlib.Core.List.{List, [], ◌∷◌, ◌++◌}
use Prim.Native.Nat.{ℕ, zero, suc, ◌/◌, ◌%◌, ◌≤◌, ◌<◌}
use native.Mathlib.Omega.{arith}
use lib.Dec.{ltb}
use borrow.Author.Tests.{ltb-false, lt-ltb, le-ltb}
use Rattle.std.proofs.Common.{◌^◌}
use Rattle.std.specs.Fmt.{decimal as written}
use Rattle.std.proofs.lemmas.Fmt.{AppendsLastDigit, decimal_from_appends, length-decimal-le_succ}
use Rattle.text.specs.Text.{digit, digits_within, decimal}

appends : AppendsLastDigit digits_within
unfolding digits_within
appends = record {
  one = λ k n h. rw (lt-ltb n 10 h);
  more = λ k n h. rw (le-ltb n 10 h);
}

-- the digits that std writes are those of the definition
pub written_decimal : (n : ℕ) → n < 2 ^ 64 → decimal n ≡ written n
unfolding decimal
written_decimal n h = decimal_from_appends digits_within appends (suc n) n h (omega (arith, length-decimal-le_succ n h))

-- the digits do not depend on how many are allowed
digits_once : (k m n : ℕ) → n < k → n < m → digits_within k n ≡ digits_within m n
unfolding digits_within
digits_once zero m n h l = absurd (omega (arith, h))
digits_once (suc k) zero n h l = absurd (omega (arith, l))
digits_once (suc k) (suc m) n h l =
    go (ltb n 10) refl (λ (big : 10 ≤ n). digits_once k m (n / 10) (omega arith) (omega arith))
  where
    go :
        (b : Bool) →
        ltb n 10 ≡ b →
        (10 ≤ n → digits_within k (n / 10) ≡ digits_within m (n / 10)) →
        cond b (digit n ∷ []) (digits_within k (n / 10) ++ (digit (n % 10) ∷ []))
        ≡ cond b (digit n ∷ []) (digits_within m (n / 10) ++ (digit (n % 10) ∷ []))
    go true e same = refl
    go false e same = ap (λ (ds : List ℕ). ds ++ (digit (n % 10) ∷ [])) (same (ltb-false n 10 e))

-- A number digit by digit, for the short ones, which are put so. A number of one digit
pub decimal_one : {n : ℕ} → n < 10 → decimal n ≡ digit n ∷ []
unfolding decimal digits_within
decimal_one {n} h = rw (lt-ltb n 10 h)

-- a longer number: the digits of a tenth of it, and its last
pub decimal_more : {n : ℕ} → 10 ≤ n → decimal n ≡ decimal (n / 10) ++ (digit (n % 10) ∷ [])
unfolding decimal digits_within
decimal_more {n} h =
    rw (le-ltb n 10 h)
    (ap (λ (ds : List ℕ). ds ++ (digit (n % 10) ∷ []))
    (digits_once n (suc (n / 10)) (n / 10) (omega arith) (omega arith)))

-- the numbers of two, three and four digits
pub decimal_two : {n : ℕ} → 10 ≤ n → n < 100 → decimal n ≡ digit (n / 10) ∷ digit (n % 10) ∷ []
decimal_two {n} h l = decimal_more h ∙ ap (λ (ds : List ℕ). ds ++ (digit (n % 10) ∷ [])) (decimal_one {n = n / 10} (omega arith))

pub decimal_three : {n : ℕ} → 100 ≤ n → n < 1000 → decimal n ≡ digit (n / 100) ∷ digit (n / 10 % 10) ∷ digit (n % 10) ∷ []
decimal_three {n} h l =
    let e : n / 10 / 10 ≡ n / 100 = omega arith in
    decimal_more (omega arith)
    ∙ ap (λ (ds : List ℕ). ds ++ (digit (n % 10) ∷ [])) (decimal_two {n = n / 10} (omega arith) (omega arith) ∙ ap (λ (d : ℕ). digit d ∷ digit (n / 10 % 10) ∷ []) e)

pub decimal_four : {n : ℕ} → 1000 ≤ n → n < 10000 → decimal n ≡ digit (n / 1000) ∷ digit (n / 100 % 10) ∷ digit (n / 10 % 10) ∷ digit (n % 10) ∷ []
decimal_four {n} h l =
    let e : n / 10 / 100 ≡ n / 1000 = omega arith in
    let f : n / 10 / 10 % 10 ≡ n / 100 % 10 = omega arith in
    decimal_more (omega arith)
    ∙ ap (λ (ds : List ℕ). ds ++ (digit (n % 10) ∷ []))
    (decimal_three {n = n / 10} (omega arith) (omega arith) ∙ ap₂ (λ (d e : ℕ). digit d ∷ digit e ∷ digit (n / 10 % 10) ∷ []) e f)
