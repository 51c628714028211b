-- The ring laws of ℤ that the library lacks. One induction, by successor and predecessor, serves them all.
use mathlib.Core.Path.{◌≡◌, sym, ◌∙◌, ap, ap₂}
use Prim.Native.Nat.{zero, suc}
use lib.IntN.{ℤ, pos, negsuc, suc_ℤ, pred_ℤ, neg_ℤ, ◌+ℤ◌, ◌-ℤ◌, ◌*ℤ◌, +ℤ_idl, +ℤ_assoc, +ℤ_comm, +ℤ_invl, +ℤ-neg_ℤ_cancel, zero-*ℤ, *ℤ_comm, suc_ℤ-+ℤ, pred_ℤ-+ℤ, suc_ℤ-*ℤ, pred_ℤ-*ℤ}

pub induct {ℓ} : (P : ℤ → Type ℓ) → P (pos zero) → ((k : ℤ) → P k → P (suc_ℤ k)) → ((k : ℤ) → P k → P (pred_ℤ k)) → (k : ℤ) → P k
induct P z s p (pos zero) = z
induct P z s p (pos (suc n)) = s (pos n) (induct P z s p (pos n))
induct P z s p (negsuc zero) = p (pos zero) z
induct P z s p (negsuc (suc n)) = p (negsuc n) (induct P z s p (negsuc n))

-- ---- sums
pub +ℤ_left_comm : (a b c : ℤ) → a +ℤ (b +ℤ c) ≡ b +ℤ (a +ℤ c)
+ℤ_left_comm a b c = sym (+ℤ_assoc a b c) ∙ ap (λ x. x +ℤ c) (+ℤ_comm a b) ∙ +ℤ_assoc b a c

-- the middle two of four summands change places
pub +ℤ_swap : (a b c d : ℤ) → (a +ℤ b) +ℤ (c +ℤ d) ≡ (a +ℤ c) +ℤ (b +ℤ d)
+ℤ_swap a b c d = +ℤ_assoc a b (c +ℤ d) ∙ ap (λ x. a +ℤ x) (+ℤ_left_comm b c d) ∙ sym (+ℤ_assoc a c (b +ℤ d))

-- ---- products
pub *ℤ_distribr : (a b c : ℤ) → (a +ℤ b) *ℤ c ≡ a *ℤ c +ℤ b *ℤ c
*ℤ_distribr a b c = induct (λ a. (a +ℤ b) *ℤ c ≡ a *ℤ c +ℤ b *ℤ c)
    (ap (λ x. x *ℤ c) (+ℤ_idl b) ∙ sym (ap (λ x. x +ℤ b *ℤ c) (zero-*ℤ c) ∙ +ℤ_idl (b *ℤ c)))
    (λ k ih. ap (λ x. x *ℤ c) (suc_ℤ-+ℤ k b) ∙ suc_ℤ-*ℤ (k +ℤ b) c ∙ ap (λ x. x +ℤ c) ih ∙ move k c ∙ ap (λ x. x +ℤ b *ℤ c) (sym (suc_ℤ-*ℤ k c)))
    (λ k ih. ap (λ x. x *ℤ c) (pred_ℤ-+ℤ k b) ∙ pred_ℤ-*ℤ (k +ℤ b) c ∙ ap (λ x. x -ℤ c) ih ∙ move k (neg_ℤ c) ∙ ap (λ x. x +ℤ b *ℤ c) (sym (pred_ℤ-*ℤ k c)))
    a
  where
    move : (k d : ℤ) → k *ℤ c +ℤ b *ℤ c +ℤ d ≡ k *ℤ c +ℤ d +ℤ b *ℤ c
    move k d = +ℤ_assoc (k *ℤ c) (b *ℤ c) d ∙ ap (λ x. k *ℤ c +ℤ x) (+ℤ_comm (b *ℤ c) d) ∙ sym (+ℤ_assoc (k *ℤ c) d (b *ℤ c))

pub *ℤ_distribl : (a b c : ℤ) → a *ℤ (b +ℤ c) ≡ a *ℤ b +ℤ a *ℤ c
*ℤ_distribl a b c = *ℤ_comm a (b +ℤ c) ∙ *ℤ_distribr b c a ∙ ap₂ ◌+ℤ◌ (*ℤ_comm b a) (*ℤ_comm c a)

-- what cancels against b is its negation
neg_ℤ_unique : (a b : ℤ) → a +ℤ b ≡ pos zero → a ≡ neg_ℤ b
neg_ℤ_unique a b e = sym (+ℤ-neg_ℤ_cancel a b) ∙ ap (λ x. x -ℤ b) e ∙ +ℤ_idl (neg_ℤ b)

pub neg_ℤ-*ℤ : (a b : ℤ) → neg_ℤ a *ℤ b ≡ neg_ℤ (a *ℤ b)
neg_ℤ-*ℤ a b = neg_ℤ_unique (neg_ℤ a *ℤ b) (a *ℤ b) (sym (*ℤ_distribr (neg_ℤ a) a b) ∙ ap (λ x. x *ℤ b) (+ℤ_invl a) ∙ zero-*ℤ b)

pub *ℤ_neg_ℤ : (a b : ℤ) → a *ℤ neg_ℤ b ≡ neg_ℤ (a *ℤ b)
*ℤ_neg_ℤ a b = *ℤ_comm a (neg_ℤ b) ∙ neg_ℤ-*ℤ b a ∙ ap neg_ℤ (*ℤ_comm b a)

pub *ℤ_assoc : (a b c : ℤ) → (a *ℤ b) *ℤ c ≡ a *ℤ (b *ℤ c)
*ℤ_assoc a b c = induct (λ a. (a *ℤ b) *ℤ c ≡ a *ℤ (b *ℤ c))
    (ap (λ x. x *ℤ c) (zero-*ℤ b) ∙ zero-*ℤ c ∙ sym (zero-*ℤ (b *ℤ c)))
    (λ k ih. ap (λ x. x *ℤ c) (suc_ℤ-*ℤ k b) ∙ *ℤ_distribr (k *ℤ b) b c ∙ ap (λ x. x +ℤ b *ℤ c) ih ∙ sym (suc_ℤ-*ℤ k (b *ℤ c)))
    (λ k ih. ap (λ x. x *ℤ c) (pred_ℤ-*ℤ k b) ∙ *ℤ_distribr (k *ℤ b) (neg_ℤ b) c ∙ ap₂ ◌+ℤ◌ ih (neg_ℤ-*ℤ b c) ∙ sym (pred_ℤ-*ℤ k (b *ℤ c)))
    a

pub *ℤ_left_comm : (a b c : ℤ) → a *ℤ (b *ℤ c) ≡ b *ℤ (a *ℤ c)
*ℤ_left_comm a b c = sym (*ℤ_assoc a b c) ∙ ap (λ x. x *ℤ c) (*ℤ_comm a b) ∙ *ℤ_assoc b a c

pub one-*ℤ : (a : ℤ) → pos (suc zero) *ℤ a ≡ a
one-*ℤ a = suc_ℤ-*ℤ (pos zero) a ∙ ap (λ x. x +ℤ a) (zero-*ℤ a) ∙ +ℤ_idl a
