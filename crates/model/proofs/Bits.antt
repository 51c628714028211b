-- The bits of a number: the number that has given ones, and the number that its bits are.
use mathlib.Core.Path.{◌≡◌, refl, sym, ap, ap₂, ◌∙◌}
use mathlib.Core.Logic.{◌⊎◌, inl, inr}
use mathlib.Core.Bool.{Bool, true, false}
use mathlib.Core.List.{List, [], ◌∷◌, map}
use Prim.Native.Nat.{ℕ, zero, suc, ◌+◌, ◌*◌, ◌/◌, ◌%◌, ◌^◌, ◌<◌}
use native.Mathlib.Nat.{div-one, zero-add, pow-suc, mod-lt, zero-div}
use native.Mathlib.Omega.{arith}
use lib.Dec.{eqb, lit<}
use lib.ListN.{length, get_or}
use lib.Pow.{shr-shr}
use Rattle.model.specs.Lists.{range, add_if}
use Rattle.model.specs.Map.{bit_of, number_of, word_of}
use Rattle.model.proofs.Tables.{table_at, same_table}

-- ---- one bit after the other

pub bit_zero : (n : ℕ) → bit_of n 0 ≡ eqb (n % 2) 1
bit_zero n = ap (λ (m : ℕ). eqb (m % 2) 1) (div-one n)

pub bit_suc : (n b : ℕ) → bit_of n (suc b) ≡ bit_of (n / 2) b
bit_suc n b =
    let e : suc b ≡ 1 + b = omega arith in
    ap (λ (k : ℕ). eqb (n / 2 ^ k % 2) 1) e ∙ ap (λ (m : ℕ). eqb (m % 2) 1) (sym (shr-shr n 1 b))

pub digit : (n : ℕ) → (n % 2 ≡ 0) ⊎ (n % 2 ≡ 1)
digit n = go (n % 2) (mod-lt n (lit< tt))
  where
    go : (k : ℕ) → k < 2 → (k ≡ 0) ⊎ (k ≡ 1)
    go zero h = inl refl
    go (suc zero) h = inr refl
    go (suc (suc k)) h = absurd (omega arith)

-- ---- the number that has given bits

abbrev bit_at : List Bool → ℕ → Bool
bit_at bs b = get_or bs b false

zero_clear : (b : ℕ) → bit_of 0 b ≡ false
zero_clear b = ap (λ (n : ℕ). eqb (n % 2) 1) (zero-div (2 ^ b))

lowest : (b : Bool) (n : ℕ) → eqb (add_if b (2 * n) % 2) 1 ≡ b
lowest true n = let e : suc (2 * n) % 2 ≡ 1 = omega arith in rw e
lowest false n = let e : 2 * n % 2 ≡ 0 = omega arith in rw e

rest : (b : Bool) (n : ℕ) → add_if b (2 * n) / 2 ≡ n
rest true n = omega arith
rest false n = omega arith

number_bit : (bs : List Bool) (b : ℕ) → bit_of (number_of bs) b ≡ bit_at bs b
unfolding number_of
number_bit [] b = zero_clear b
number_bit (x ∷ bs) zero = bit_zero (number_of (x ∷ bs)) ∙ lowest x (number_of bs)
number_bit (x ∷ bs) (suc b) = bit_suc (number_of (x ∷ bs)) b ∙ ap (λ (n : ℕ). bit_of n b) (rest x (number_of bs)) ∙ number_bit bs b

number_small : (bs : List Bool) → number_of bs < 2 ^ length bs
unfolding number_of
number_small [] = omega arith
number_small (x ∷ bs) = go x (number_small bs) (pow-suc 2 (length bs))
  where
    go : (b : Bool) → number_of bs < 2 ^ length bs → 2 ^ suc (length bs) ≡ 2 ^ length bs * 2 → add_if b (2 * number_of bs) < 2 ^ suc (length bs)
    go true h e = omega arith
    go false h e = omega arith

-- ---- a number is the one that has its bits

halved : (n : ℕ) → n ≡ add_if (eqb (n % 2) 1) (2 * (n / 2))
halved n = go (digit n)
  where
    go : (n % 2 ≡ 0) ⊎ (n % 2 ≡ 1) → n ≡ add_if (eqb (n % 2) 1) (2 * (n / 2))
    go (inl e) = rw e (omega arith)
    go (inr e) = rw e (omega arith)

number_of_bits : (k n : ℕ) → n < 2 ^ k → n ≡ number_of (map (bit_of n) (range 0 k))
unfolding number_of
number_of_bits zero n h = omega arith
number_of_bits (suc k) n h =
    let p = pow-suc 2 k in
    halved n
    ∙ ap₂ add_if (sym (bit_zero n))
    (ap (λ (m : ℕ). 2 * m)
    (number_of_bits k (n / 2) (omega arith)
    ∙ ap number_of (same_table (bit_of (n / 2)) (bit_of n) 0 1 k (λ b h. sym (ap (bit_of n) (omega arith) ∙ bit_suc n b ∙ ap (bit_of (n / 2)) (sym (zero-add b)))))))

-- ---- a word of 64 bits

pub word_bit : (test : ℕ → Bool) (b : ℕ) → b < 64 → bit_of (word_of test) b ≡ test b
word_bit test b h = number_bit (map test (range 0 64)) b ∙ table_at test 64 b false h

pub word_small : (test : ℕ → Bool) → word_of test < 2 ^ 64
word_small test = number_small (map test (range 0 64))

pub word_congr : (f g : ℕ → Bool) → ((b : ℕ) → b < 64 → f b ≡ g b) → word_of f ≡ word_of g
word_congr f g same =
    ap number_of (same_table f g 0 0 64 (λ b h. ap f (zero-add b) ∙ same b h ∙ ap g (sym (zero-add b))))

-- one word alone has given bits
pub word_is : (n : ℕ) → n < 2 ^ 64 → (test : ℕ → Bool) → ((b : ℕ) → b < 64 → bit_of n b ≡ test b) → n ≡ word_of test
word_is n h test same = number_of_bits 64 n h ∙ word_congr (bit_of n) test same
