-- The bits of a word: of two joined bit by bit, and of a block.
use mathlib.Core.Path.{◌≡◌, refl, sym, ap, ap₂, ◌∙◌}
use mathlib.Core.Logic.{◌⊎◌, inl, inr}
use mathlib.Core.Bool.{Bool, true, false, ◌&&◌, ◌||◌}
use Prim.Native.Nat.{ℕ, zero, suc, ◌-◌, ◌/◌, ◌%◌, ◌^◌, ◌≤◌}
use native.Mathlib.Nat.{pow-suc}
use native.Mathlib.Omega.{arith}
use lib.Dec.{eqb, leb, ltb}
use lib.Pow.{pow_pos}
use lib.Bits.{bit_and, bit_or, and_shr, and_mod, or_shr, or_mod}
use borrow.Author.Tests.{eq-eqb, ne_eqb, le-leb, lt-leb, lt-ltb, le-ltb, leb-true, leb-false, ltb-true, ltb-false}
use Rattle.model.specs.Lists.{add_if}
use Rattle.model.specs.Map.{bit_of}
use Rattle.model.proofs.Bits.{bit_zero, bit_suc, digit}

-- ---- two words joined bit by bit

digit_is : (n : ℕ) → n % 2 ≡ add_if (eqb (n % 2) 1) 0
digit_is n = go (digit n)
  where
    go : (n % 2 ≡ 0) ⊎ (n % 2 ≡ 1) → n % 2 ≡ add_if (eqb (n % 2) 1) 0
    go (inl e) = rw e
    go (inr e) = rw e

module _
    (op : ℕ → ℕ → ℕ) (join : Bool → Bool → Bool)
    (shifted : (x y k : ℕ) → op x y / 2 ^ k ≡ op (x / 2 ^ k) (y / 2 ^ k))
    (cut : (x y k : ℕ) → op x y % 2 ^ k ≡ op (x % 2 ^ k) (y % 2 ^ k))
    (table : (s t : Bool) → eqb (op (add_if s 0) (add_if t 0)) 1 ≡ join s t)
  where
    bit_joined : (x y b : ℕ) → bit_of (op x y) b ≡ join (bit_of x b) (bit_of y b)
    bit_joined x y b =
        ap (λ (m : ℕ). eqb (m % 2) 1) (shifted x y b)
        ∙ ap (λ (m : ℕ). eqb m 1) (cut (x / 2 ^ b) (y / 2 ^ b) 1)
        ∙ ap₂ (λ (m n : ℕ). eqb (op m n) 1) (digit_is (x / 2 ^ b)) (digit_is (y / 2 ^ b))
        ∙ table (bit_of x b) (bit_of y b)

pub bit_or_lem : (x y b : ℕ) → bit_of (bit_or x y) b ≡ (bit_of x b || bit_of y b)
bit_or_lem = bit_joined bit_or ◌||◌ or_shr or_mod table
  where
    table : (s t : Bool) → eqb (bit_or (add_if s 0) (add_if t 0)) 1 ≡ (s || t)
    table true true = refl
    table true false = refl
    table false true = refl
    table false false = refl

pub bit_and_lem : (x y b : ℕ) → bit_of (bit_and x y) b ≡ (bit_of x b && bit_of y b)
bit_and_lem = bit_joined bit_and ◌&&◌ and_shr and_mod table
  where
    table : (s t : Bool) → eqb (bit_and (add_if s 0) (add_if t 0)) 1 ≡ (s && t)
    table true true = refl
    table true false = refl
    table false true = refl
    table false false = refl

-- ---- a block of bits
half_block : (l h : ℕ) → l ≤ h → (2 ^ h - 2 ^ l) / 2 ≡ 2 ^ (h - 1) - 2 ^ (l - 1)
half_block zero zero k = refl
half_block zero (suc h) k =
    let p = pow-suc 2 h in
    let q = pow_pos h in
    let e : suc h - 1 ≡ h = omega arith in
    rw e (omega arith)
half_block (suc l) zero k = absurd (omega arith)
half_block (suc l) (suc h) k =
    let p = pow-suc 2 h in
    let q = pow-suc 2 l in
    let e : suc h - 1 ≡ h = omega arith in
    let f : suc l - 1 ≡ l = omega arith in
    rw (e, f) (omega arith)

low_bit : (l h : ℕ) → l ≤ h → eqb ((2 ^ h - 2 ^ l) % 2) 1 ≡ (leb l 0 && ltb 0 h)
low_bit zero zero k = refl
low_bit zero (suc h) k =
    let p = pow-suc 2 h in
    let q = pow_pos h in
    eq-eqb ((2 ^ suc h - 1) % 2) 1 (omega arith) ∙ sym (rw (lt-ltb 0 (suc h) (omega arith)))
low_bit (suc l) zero k = absurd (omega arith)
low_bit (suc l) (suc h) k =
    let p = pow-suc 2 h in
    let q = pow-suc 2 l in
    ne_eqb ((2 ^ suc h - 2 ^ suc l) % 2) 1 (λ e. omega arith) ∙ sym (rw (lt-leb (suc l) 0 (omega arith)))

pred_leb : (l b : ℕ) → leb (l - 1) b ≡ leb l (suc b)
pred_leb l b = go (leb l (suc b)) refl
  where
    go : (t : Bool) → leb l (suc b) ≡ t → leb (l - 1) b ≡ t
    go true e = le-leb (l - 1) b (omega (arith, leb-true l (suc b) e))
    go false e = lt-leb (l - 1) b (omega (arith, leb-false l (suc b) e))

pred_ltb : (b h : ℕ) → ltb b (h - 1) ≡ ltb (suc b) h
pred_ltb b h = go (ltb (suc b) h) refl
  where
    go : (t : Bool) → ltb (suc b) h ≡ t → ltb b (h - 1) ≡ t
    go true e = lt-ltb b (h - 1) (omega (arith, ltb-true (suc b) h e))
    go false e = le-ltb b (h - 1) (omega (arith, ltb-false (suc b) h e))

pub bit_block : (l h b : ℕ) → l ≤ h → bit_of (2 ^ h - 2 ^ l) b ≡ (leb l b && ltb b h)
bit_block l h zero k = bit_zero (2 ^ h - 2 ^ l) ∙ low_bit l h k
bit_block l h (suc b) k =
    bit_suc (2 ^ h - 2 ^ l) b
    ∙ ap (λ (n : ℕ). bit_of n b) (half_block l h k)
    ∙ bit_block (l - 1) (h - 1) b (omega arith)
    ∙ ap₂ ◌&&◌ (pred_leb l b) (pred_ltb b h)
