-- A decimal number, read: it has digits alone, is the number, and has no leading zero.
use mathlib.Core.Path.{◌≡◌, refl, ◌∙◌}
use mathlib.Core.Bool.{Bool, true, false, cond}
use mathlib.Core.List.{List, [], ◌∷◌, ◌++◌}
use Prim.Native.Nat.{ℕ, zero, suc, ◌+◌, ◌*◌, ◌-◌, ◌/◌, ◌%◌, ◌≤◌, ◌<◌}
use native.Mathlib.Omega.{arith}
use lib.Dec.{ltb}
use lib.ListN.{get_or}
use borrow.Author.Tests.{ltb-true, ltb-false}
use Rattle.text.specs.Text.{digit, digits_within, decimal}

-- the number that digits stand for, after a number already read
abbrev read : ℕ → List ℕ → ℕ
read n [] = n
read n (d ∷ ds) = read (n * 10 + (d - digit 0)) ds

read_last : (n : ℕ) (ds : List ℕ) (d : ℕ) → read n (ds ++ (d ∷ [])) ≡ read n ds * 10 + (d - digit 0)
read_last n [] d = refl
read_last n (e ∷ ds) d = read_last (n * 10 + (e - digit 0)) ds d

-- every byte is a digit
abbrev Digits : List ℕ → Type 0
Digits [] = Unit {0}
Digits (d ∷ ds) = (digit 0 ≤ d) × (d ≤ digit 9) × Digits ds

digits_last : (ds : List ℕ) {d : ℕ} → d < 10 → Digits ds → Digits (ds ++ (digit d ∷ []))
digits_last [] h p = (omega arith, omega arith, tt)
digits_last (e ∷ ds) h p = (p.0, p.1, digits_last ds h p.2)

-- digits that are enough read as the number, and the first of them is 0 for 0 alone
record Reads (n : ℕ) (ds : List ℕ) : Type 0 where
  digits : Digits ds
  value : read 0 ds ≡ n
  leads : 0 < n → get_or ds 0 (digit 0) ≡ digit 0 → ⊥

digits_read : (k n : ℕ) → n < k → Reads n (digits_within k n)
unfolding digits_within
digits_read zero n h = absurd (omega (arith, h))
digits_read (suc k) n h = go (ltb n 10) refl (λ (big : 10 ≤ n). digits_read k (n / 10) (omega arith))
  where
    more : (ds : List ℕ) → 10 ≤ n → Reads (n / 10) ds → Reads n (ds ++ (digit (n % 10) ∷ []))
    more [] big r = absurd (omega (arith, r.value))
    more (d ∷ ds) big r =
        record {
          digits = digits_last (d ∷ ds) (omega arith) r.digits;
          value = read_last 0 (d ∷ ds) (digit (n % 10)) ∙ omega (arith, r.value);
          leads = λ (p : 0 < n) e. r.leads (omega arith) e;
        }

    go :
        (b : Bool) →
        ltb n 10 ≡ b →
        (10 ≤ n → Reads (n / 10) (digits_within k (n / 10))) →
        Reads n (cond b (digit n ∷ []) (digits_within k (n / 10) ++ (digit (n % 10) ∷ [])))
    go true e below =
        let one : n < 10 = ltb-true n 10 e in
        record { digits = digits_last [] one tt; value = omega arith; leads = λ (p : 0 < n) z. omega (arith, z) }
    go false e below = more (digits_within k (n / 10)) (ltb-false n 10 e) (below (ltb-false n 10 e))

pub decimal_digits : (n : ℕ) → Digits (decimal n)
unfolding decimal
decimal_digits n = (digits_read (suc n) n (omega arith)).digits

pub decimal_reads : (n : ℕ) → read 0 (decimal n) ≡ n
unfolding decimal
decimal_reads n = (digits_read (suc n) n (omega arith)).value

-- no leading zero, and for 0 no digit more
pub decimal_leads : (n : ℕ) → 0 < n → get_or (decimal n) 0 (digit 0) ≡ digit 0 → ⊥
unfolding decimal
decimal_leads n = (digits_read (suc n) n (omega arith)).leads

pub decimal_zero : decimal 0 ≡ digit 0 ∷ []
unfolding decimal digits_within
decimal_zero = refl
