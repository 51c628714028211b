-- A sum of three products whose weights fall steeply has the sign of the first factor that is not 0, and is 0 only where all three are.
use mathlib.Core.Path.{◌≡◌, sym, ap}
use mathlib.Core.Logic.{◌↔◌, ◌⊎◌, inl, inr}
use mathlib.Core.List.{[], ◌∷◌}
use Prim.Native.Nat.{ℕ, zero, suc, ◌≤◌}
use lib.Dec.{T, le→leb}
use lib.IntN.{ℤ, pos, negsuc, neg_ℤ, nat_abs, ◌+ℤ◌, ◌*ℤ◌}
use lib.Signed.{le_z, ◌<ℤ◌, ◌≤ℤ◌, le_z_yes, clash_ℤ}
use Rattle.integer.specs.Magnitude.{Within}
use Rattle.integer.proofs.Identity.{ring, reify, combine₁, combine₂, combine₃}
use Rattle.integer.proofs.Order.{<_by, ≤_by, <_diff, ≤_diff, <→≤, suc-≤, +_pos_nonneg, ≤ℤ-<ℤ_trans, Compared, below, same, above, compared}
use Rattle.integer.proofs.Products.{*_pos, *_nonneg, neg_of_neg, pos→≢}

within_at_most : {n : ℕ} {z : ℤ} → Within n z → z ≤ℤ pos n
within_at_most {n} {z} h = le_z_yes (go z h.within)
  where
    go : (z : ℤ) → nat_abs z ≤ n → T (le_z z (pos n))
    go (pos m) k = le→leb m n k
    go (negsuc m) k = tt

-- the weights: each is far above the next, for numbers of size at most B
pub record Steep (B α β γ : ℤ) : Type 0 where
  pub size : pos 0 ≤ℤ B
  pub last : pos 0 <ℤ γ
  pub middle : (γ *ℤ B) <ℤ β
  pub first : ((β +ℤ γ) *ℤ B) <ℤ α

-- the first of three numbers that is not 0 is above 0
abbrev pub FirstAbove : ℤ → ℤ → ℤ → Type 0
FirstAbove x y z = (pos 0 <ℤ x) ⊎ ((x ≡ pos 0) × ((pos 0 <ℤ y) ⊎ ((y ≡ pos 0) × (pos 0 <ℤ z))))

abbrev pub weighted : ℤ → ℤ → ℤ → ℤ → ℤ → ℤ → ℤ
weighted α β γ x y z = α *ℤ x +ℤ β *ℤ y +ℤ γ *ℤ z

module _ {B α β γ : ℤ} (s : Steep B α β γ) where
  middle_positive : pos 0 <ℤ β
  middle_positive = ≤ℤ-<ℤ_trans (*_nonneg (<→≤ s.last) s.size) s.middle

  first_positive : pos 0 <ℤ α
  first_positive = ≤ℤ-<ℤ_trans (*_nonneg (<→≤ (+_pos_nonneg middle_positive (<→≤ s.last))) s.size) s.first

  first_above : {x y z : ℤ} → neg_ℤ B ≤ℤ y → neg_ℤ B ≤ℤ z → FirstAbove x y z → pos 0 <ℤ weighted α β γ x y z
  first_above {x} {y} {z} hy hz (inl h) =
      <_by
      (+_pos_nonneg (+_pos_nonneg (+_pos_nonneg (<_diff s.first) (*_nonneg (<→≤ first_positive) (≤_diff (suc-≤ h))))
      (*_nonneg (<→≤ middle_positive) (≤_diff hy)))
      (*_nonneg (<→≤ s.last) (≤_diff hz)))
      (ring (B ∷ α ∷ β ∷ γ ∷ x ∷ y ∷ z ∷ []) (search reify depth 40 fits 200000, tt))
  first_above {x} {y} {z} hy hz (inr (e, inl h)) =
      <_by
      (+_pos_nonneg (+_pos_nonneg (<_diff s.middle) (*_nonneg (<→≤ middle_positive) (≤_diff (suc-≤ h)))) (*_nonneg (<→≤ s.last) (≤_diff hz)))
      (combine₁ α e (ring (B ∷ α ∷ β ∷ γ ∷ x ∷ y ∷ z ∷ []) (search reify depth 40 fits 200000, tt)))
  first_above {x} {y} {z} hy hz (inr (e, inr (f, h))) =
      <_by (*_pos s.last h) (combine₂ α e β f (ring (α ∷ β ∷ γ ∷ x ∷ y ∷ z ∷ []) (search reify depth 40 fits 200000, tt)))

-- the first of three numbers that is not 0 is above 0 or below it, or all are 0
data Leading (x y z : ℤ) : Type 0 where
  upward : FirstAbove x y z → Leading x y z
  downward : FirstAbove (neg_ℤ x) (neg_ℤ y) (neg_ℤ z) → Leading x y z
  nowhere : x ≡ pos 0 → y ≡ pos 0 → z ≡ pos 0 → Leading x y z

leading : (x y z : ℤ) → Leading x y z
leading x y z = go (compared (pos 0) x) (compared (pos 0) y) (compared (pos 0) z)
  where
    go : Compared (pos 0) x → Compared (pos 0) y → Compared (pos 0) z → Leading x y z
    go (below h) _ _ = upward (inl h)
    go (above h) _ _ = downward (inl (neg_of_neg h))
    go (same e) (below h) _ = upward (inr (sym e, inl h))
    go (same e) (above h) _ = downward (inr (ap neg_ℤ (sym e), inl (neg_of_neg h)))
    go (same e) (same f) (below h) = upward (inr (sym e, inr (sym f, h)))
    go (same e) (same f) (above h) = downward (inr (ap neg_ℤ (sym e), inr (ap neg_ℤ (sym f), neg_of_neg h)))
    go (same e) (same f) (same g) = nowhere (sym e) (sym f) (sym g)

module _ {n : ℕ} {α β γ : ℤ} (s : Steep (pos n) α β γ) where
  not_less : {z : ℤ} → Within n z → neg_ℤ (pos n) ≤ℤ z
  not_less {z} h = ≤_by (≤_diff (within_at_most {z = neg_ℤ z} (record { within = size z h.within }))) (ring (pos n ∷ z ∷ []) (search reify depth 40 fits 200000, tt))
    where
      size : (z : ℤ) → nat_abs z ≤ n → nat_abs (neg_ℤ z) ≤ n
      size (pos zero) k = k
      size (pos (suc m)) k = k
      size (negsuc m) k = k

  turned : {z : ℤ} → Within n z → neg_ℤ (pos n) ≤ℤ neg_ℤ z
  turned {z} h = ≤_by (≤_diff (within_at_most h)) (ring (pos n ∷ z ∷ []) (search reify depth 40 fits 200000, tt))

  pub weighted_says : {x y z : ℤ} → Within n y → Within n z → (pos 0 <ℤ weighted α β γ x y z) ↔ FirstAbove x y z
  weighted_says {x} {y} {z} hy hz = (λ h. to (leading x y z) h, first_above s (not_less hy) (not_less hz))
    where
      to : Leading x y z → pos 0 <ℤ weighted α β γ x y z → FirstAbove x y z
      to (upward l) h = l
      to (downward l) h =
          clash_ℤ h
          (<→≤ (<_by (first_above s (turned hy) (turned hz) l) (ring (α ∷ β ∷ γ ∷ x ∷ y ∷ z ∷ []) (search reify depth 40 fits 200000, tt))))
      to (nowhere e f g) h =
          absurd (pos→≢ h (combine₃ α e β f γ g (ring (α ∷ β ∷ γ ∷ x ∷ y ∷ z ∷ []) (search reify depth 40 fits 200000, tt))))

  -- and it is 0 only where all three are
  pub weighted_zero :
      {x y z : ℤ} → Within n y → Within n z → weighted α β γ x y z ≡ pos 0 → (x ≡ pos 0) × (y ≡ pos 0) × (z ≡ pos 0)
  weighted_zero {x} {y} {z} hy hz e = go (leading x y z)
    where
      go : Leading x y z → (x ≡ pos 0) × (y ≡ pos 0) × (z ≡ pos 0)
      go (upward l) = absurd (pos→≢ (first_above s (not_less hy) (not_less hz) l) e)
      go (downward l) =
          absurd
          (pos→≢ (first_above s (turned hy) (turned hz) l)
          (combine₁ (negsuc 0) e (ring (α ∷ β ∷ γ ∷ x ∷ y ∷ z ∷ []) (search reify depth 40 fits 200000, tt))))
      go (nowhere f g h) = (f, g, h)
