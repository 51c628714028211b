-- The bits of a word: of a complement; the first one set, and how many are.
use mathlib.Core.Path.{◌≡◌, refl, sym, ap, ap₂, ◌∙◌}
use mathlib.Core.Logic.{◌⊎◌, inl, inr}
use mathlib.Core.Bool.{Bool, true, false, cond, not}
use Prim.Native.Nat.{ℕ, zero, suc, ◌+◌, ◌-◌, ◌/◌, ◌%◌, ◌^◌, ◌≤◌, ◌<◌}
use native.Mathlib.Nat.{pow-suc, zero-add}
use native.Mathlib.Omega.{arith}
use lib.Dec.{eqb, lit≤}
use mir.Syntax.{w64}
use mir.Val.{Fits}
use lib.Count.{ones, ones_step, ones-le, count_trailing_zeros, trailing_le, under}
use Rattle.model.specs.Lists.{range, add_if, tally}
use Rattle.model.specs.Map.{first_of, bit_of}
use Rattle.model.proofs.Bits.{bit_zero, bit_suc, digit}
use Rattle.model.proofs.LitMap.{tally_same, first_same}

-- ---- the complement of k bits
not_digit : (n m : ℕ) → n % 2 + m % 2 ≡ 1 → eqb (n % 2) 1 ≡ not (eqb (m % 2) 1)
not_digit n m e = go (digit m)
  where
    go : (m % 2 ≡ 0) ⊎ (m % 2 ≡ 1) → eqb (n % 2) 1 ≡ not (eqb (m % 2) 1)
    go (inl f) = let g : n % 2 ≡ 1 = omega arith in rw (f, g)
    go (inr f) = let g : n % 2 ≡ 0 = omega arith in rw (f, g)

bit_not : (k b w : ℕ) → b < k → w < 2 ^ k → bit_of ((2 ^ k - 1) - w) b ≡ not (bit_of w b)
bit_not zero b w h l = absurd (omega arith)
bit_not (suc k) zero w h l =
    let p = pow-suc 2 k in
    bit_zero ((2 ^ suc k - 1) - w) ∙ not_digit ((2 ^ suc k - 1) - w) w (omega arith) ∙ ap not (sym (bit_zero w))
bit_not (suc k) (suc b) w h l =
    let p = pow-suc 2 k in
    let e : ((2 ^ suc k - 1) - w) / 2 ≡ (2 ^ k - 1) - w / 2 = omega arith in
    bit_suc ((2 ^ suc k - 1) - w) b
    ∙ ap (λ (n : ℕ). bit_of n b) e
    ∙ bit_not k b (w / 2) (omega arith) (omega arith)
    ∙ ap not (sym (bit_suc w b))

-- ---- the first bit that is set
first_later : (f : ℕ → Bool) (i k : ℕ) → first_of f (suc i) k ≡ suc (first_of (λ (j : ℕ). f (suc j)) i k)
first_later f i zero = refl
first_later f i (suc k) = go (f (suc i)) (first_later f (suc i) k)
  where
    go : (b : Bool) → first_of f (suc (suc i)) k ≡ suc (first_of (λ (j : ℕ). f (suc j)) (suc i) k)
        → cond b (suc i) (first_of f (suc (suc i)) k) ≡ suc (cond b i (first_of (λ (j : ℕ). f (suc j)) (suc i) k))
    go true e = refl
    go false e = e

trailing_first : (k n : ℕ) → count_trailing_zeros k n ≡ first_of (bit_of n) 0 k
unfolding count_trailing_zeros
trailing_first zero n = refl
trailing_first (suc k) n =
    ap (under (n % 2)) (trailing_first k (n / 2))
    ∙ go (digit n)
    ∙ ap₂ (λ (b : Bool) (m : ℕ). cond b 0 m) (sym (bit_zero n))
    (ap suc (sym (zero-add _) ∙ first_same (λ (j : ℕ). bit_of n (suc j)) (bit_of (n / 2)) 0 0 k (λ j h. bit_suc n (0 + j)) ∙ zero-add _) ∙ sym (first_later (bit_of n) 0 k))
  where
    go : (n % 2 ≡ 0) ⊎ (n % 2 ≡ 1) → under (n % 2) (first_of (bit_of (n / 2)) 0 k) ≡ cond (eqb (n % 2) 1) 0 (suc (first_of (bit_of (n / 2)) 0 k))
    go (inl e) = rw e
    go (inr e) = rw e

-- ---- how many are set
add_digit : (n m : ℕ) → n % 2 + m ≡ add_if (eqb (n % 2) 1) m
add_digit n m = go (digit n)
  where
    go : (n % 2 ≡ 0) ⊎ (n % 2 ≡ 1) → n % 2 + m ≡ add_if (eqb (n % 2) 1) m
    go (inl e) = rw e (omega arith)
    go (inr e) = rw e (omega arith)

ones_tally : (k n : ℕ) → n < 2 ^ k → ones n ≡ tally (bit_of n) (range 0 k)
unfolding ones
ones_tally zero n h = let e : n ≡ 0 = omega arith in ap ones e
ones_tally (suc k) n h =
    let p = pow-suc 2 k in
    ones_step n
    ∙ ap (λ (m : ℕ). n % 2 + m) (ones_tally k (n / 2) (omega arith))
    ∙ add_digit n (tally (bit_of (n / 2)) (range 0 k))
    ∙ ap₂ add_if (sym (bit_zero n))
    (tally_same (bit_of (n / 2)) (bit_of n) 0 1 k (λ j h. sym (ap (bit_of n) (omega arith) ∙ bit_suc n (0 + j))))

-- ---- the two counts of a word as the machine has them

-- the bits of a word that are set
pub record OnesIs (word r : ℕ) : Type 0 where
  pub is : r ≡ tally (bit_of word) (range 0 64)
  pub few : r ≤ 64

-- its first bit that is clear, 64 where none is
pub record ClearIs (word r : ℕ) : Type 0 where
  pub is : r ≡ first_of (λ (b : ℕ). not (bit_of word b)) 0 64
  pub few : r ≤ 64

pub ones_is : (w : ℕ) → Fits w64 w → OnesIs w (ones w)
ones_is w h = record { is = ones_tally 64 w h.fits; few = ones-le 64 w h.fits }

complement_clear : (w : ℕ) → w < 2 ^ 64 → (k i : ℕ) → i + k ≤ 64 → first_of (bit_of ((2 ^ 64 - 1) - w)) i k ≡ first_of (λ (b : ℕ). not (bit_of w b)) i k
complement_clear w h zero i l = refl
complement_clear w h (suc k) i l = ap₂ (λ (t : Bool) (m : ℕ). cond t i m) (bit_not 64 i w (omega arith) h) (complement_clear w h k (suc i) (omega arith))

pub clear_is : (w : ℕ) → Fits w64 w → ClearIs w (count_trailing_zeros 64 ((2 ^ 64 - 1) - w))
clear_is w h =
    record {
      is = trailing_first 64 ((2 ^ 64 - 1) - w) ∙ complement_clear w h.fits 64 0 (lit≤ tt);
      few = trailing_le 64 ((2 ^ 64 - 1) - w);
    }
