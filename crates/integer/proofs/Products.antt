-- Order and products: the sign of a product, cancellation, squares; and `search signs`, which proves 0 < w and 0 ≤ w, where w is made of sums
-- and products of what the hypotheses give the sign of.
use mathlib.Core.Path.{◌≡◌, refl, sym, ◌∙◌, ap, subst}
use mathlib.Core.Logic.{◌⊎◌, inl, inr, ◌≢◌}
use mathlib.Core.List.{[], ◌∷◌}
use Prim.Native.Nat.{zero, suc, ◌*◌, zero-le}
use native.Mathlib.Nat.{mul-pos}
use lib.Dec.{T, le→leb, lt→ltb, ltb→lt}
use lib.IntN.{ℤ, pos, negsuc, neg_ℤ, ◌+ℤ◌, ◌-ℤ◌, ◌*ℤ◌, +ℤ_idl, *ℤ_comm, ℤ_discrete}
use lib.Signed.{lt_z, le_z, ◌≤ℤ◌, ◌<ℤ◌, le_z_yes, lt_z_yes, <ℤ_irrefl, clash_ℤ}
use Rattle.integer.proofs.Ring.{*ℤ_neg_ℤ, neg_ℤ-*ℤ}
use Rattle.integer.proofs.Identity.{ring, reify, by_zero, combine₁}
use Rattle.integer.proofs.Order.{<_by, ≤_by, <_diff, ≤_diff, +_nonneg, +_pos_nonneg, +_nonneg_pos, <→≤, ≡→≤, neg-<, neg-≤, Compared, below, same, above, compared, <_or-≥, ≤ℤ_antisym}

-- ---- negation
pub neg_of_pos : {a : ℤ} → pos zero <ℤ a → neg_ℤ a <ℤ pos zero
neg_of_pos h = neg-< h

pub neg_of_neg : {a : ℤ} → a <ℤ pos zero → pos zero <ℤ neg_ℤ a
neg_of_neg h = neg-< h

pub neg_of_nonneg : {a : ℤ} → pos zero ≤ℤ a → neg_ℤ a ≤ℤ pos zero
neg_of_nonneg h = neg-≤ h

pub neg_of_nonpos : {a : ℤ} → a ≤ℤ pos zero → pos zero ≤ℤ neg_ℤ a
neg_of_nonpos h = neg-≤ h

pub pos→≢ : {a : ℤ} → pos zero <ℤ a → a ≢ pos zero
pos→≢ h e = <ℤ_irrefl (subst (λ z. pos zero <ℤ z) e h)

-- ---- the sign of a product
pub *_nonneg : {a b : ℤ} → pos zero ≤ℤ a → pos zero ≤ℤ b → pos zero ≤ℤ (a *ℤ b)
*_nonneg {a} {b} h k = le_z_yes (go a b h.le k.le)
  where
    go : (a b : ℤ) → T (le_z (pos zero) a) → T (le_z (pos zero) b) → T (le_z (pos zero) (a *ℤ b))
    go (pos m) (pos n) h k = le→leb zero (m * n) zero-le
    go (pos m) (negsuc n) h k = absurd k
    go (negsuc m) b h k = absurd h

pub *_pos : {a b : ℤ} → pos zero <ℤ a → pos zero <ℤ b → pos zero <ℤ (a *ℤ b)
*_pos {a} {b} h k = lt_z_yes (go a b h.lt k.lt)
  where
    go : (a b : ℤ) → T (lt_z (pos zero) a) → T (lt_z (pos zero) b) → T (lt_z (pos zero) (a *ℤ b))
    go (pos m) (pos n) h k = lt→ltb zero (m * n) (mul-pos (ltb→lt zero m h) (ltb→lt zero n k))
    go (pos m) (negsuc n) h k = absurd k
    go (negsuc m) b h k = absurd h

pub *_neg_neg : {a b : ℤ} → a <ℤ pos zero → b <ℤ pos zero → pos zero <ℤ (a *ℤ b)
*_neg_neg {a} {b} h k = <_by (*_pos (neg_of_neg h) (neg_of_neg k)) (ring (a ∷ b ∷ []) (search reify depth 40 fits 200000, tt))

pub *_nonpos_nonpos : {a b : ℤ} → a ≤ℤ pos zero → b ≤ℤ pos zero → pos zero ≤ℤ (a *ℤ b)
*_nonpos_nonpos {a} {b} h k = ≤_by (*_nonneg (neg_of_nonpos h) (neg_of_nonpos k)) (ring (a ∷ b ∷ []) (search reify depth 40 fits 200000, tt))

pub *_pos_neg : {a b : ℤ} → pos zero <ℤ a → b <ℤ pos zero → (a *ℤ b) <ℤ pos zero
*_pos_neg {a} {b} h k = <_by (*_pos h (neg_of_neg k)) (ring (a ∷ b ∷ []) (search reify depth 40 fits 200000, tt))

pub *_nonneg_nonpos : {a b : ℤ} → pos zero ≤ℤ a → b ≤ℤ pos zero → (a *ℤ b) ≤ℤ pos zero
*_nonneg_nonpos {a} {b} h k = ≤_by (*_nonneg h (neg_of_nonpos k)) (ring (a ∷ b ∷ []) (search reify depth 40 fits 200000, tt))

-- (the mirror images of the last two, which `search` wants as laws of their own)
pub *_neg_pos : {a b : ℤ} → a <ℤ pos zero → pos zero <ℤ b → (a *ℤ b) <ℤ pos zero
*_neg_pos {a} {b} h k = subst (λ z. z <ℤ pos zero) (*ℤ_comm b a) (*_pos_neg k h)

pub *_nonpos_nonneg : {a b : ℤ} → a ≤ℤ pos zero → pos zero ≤ℤ b → (a *ℤ b) ≤ℤ pos zero
*_nonpos_nonneg {a} {b} h k = subst (λ z. z ≤ℤ pos zero) (*ℤ_comm b a) (*_nonneg_nonpos k h)

-- ---- the sign of a factor
pub *_nonneg_cancel : {a b : ℤ} → pos zero <ℤ a → pos zero ≤ℤ (a *ℤ b) → pos zero ≤ℤ b
*_nonneg_cancel {a} {b} h k = go (<_or-≥ b (pos zero))
  where
    go : (b <ℤ pos zero) ⊎ (pos zero ≤ℤ b) → pos zero ≤ℤ b
    go (inl l) = clash_ℤ (*_pos_neg h l) k
    go (inr l) = l

pub *_pos_cancel : {a b : ℤ} → pos zero <ℤ a → pos zero <ℤ (a *ℤ b) → pos zero <ℤ b
*_pos_cancel {a} {b} h k = go (<_or-≥ (pos zero) b)
  where
    go : (pos zero <ℤ b) ⊎ (b ≤ℤ pos zero) → pos zero <ℤ b
    go (inl l) = l
    go (inr l) = clash_ℤ k (*_nonneg_nonpos (<→≤ h) l)

pub *_zero_cancel : {a b : ℤ} → pos zero <ℤ a → a *ℤ b ≡ pos zero → b ≡ pos zero
*_zero_cancel {a} {b} h e =
    ≤ℤ_antisym
    (≤_by (*_nonneg_cancel {b = neg_ℤ b} h (≡→≤ (sym (*ℤ_neg_ℤ a b ∙ ap neg_ℤ e)))) (+ℤ_idl (neg_ℤ b)))
    (*_nonneg_cancel h (≡→≤ (sym e)))

pub zero_product : (a b : ℤ) → a *ℤ b ≡ pos zero → (a ≡ pos zero) ⊎ (b ≡ pos zero)
zero_product a b e = go (compared (pos zero) a)
  where
    go : Compared (pos zero) a → (a ≡ pos zero) ⊎ (b ≡ pos zero)
    go (below h) = inr (*_zero_cancel h e)
    go (same z) = inl (sym z)
    go (above h) = inr (*_zero_cancel (neg_of_neg h) (neg_ℤ-*ℤ a b ∙ ap neg_ℤ e))

-- an order, by a positive multiple of the difference
pub ≤_by_multiple : {a b k w : ℤ} → pos zero <ℤ k → pos zero ≤ℤ w → k *ℤ (b -ℤ a) ≡ w → a ≤ℤ b
≤_by_multiple p h e = ≤_by (*_nonneg_cancel p (subst (λ z. pos zero ≤ℤ z) (sym e) h)) refl

pub *_cancel-≡ : {a b : ℤ} (c : ℤ) → c ≢ pos zero → c *ℤ a ≡ c *ℤ b → a ≡ b
*_cancel-≡ {a} {b} c f e = go (zero_product c (a -ℤ b) (combine₁ (pos 1) e (ring (a ∷ b ∷ c ∷ []) (search reify depth 40 fits 200000, tt))))
  where
    go : (c ≡ pos zero) ⊎ (a -ℤ b ≡ pos zero) → a ≡ b
    go (inl z) = absurd (f z)
    go (inr z) = by_zero z

-- ---- squares
pub sq_nonneg : (a : ℤ) → pos zero ≤ℤ (a *ℤ a)
sq_nonneg (pos n) = le_z_yes (le→leb zero (n * n) zero-le)
sq_nonneg (negsuc n) = le_z_yes (le→leb zero (suc n * suc n) zero-le)

pub sq_pos : {a : ℤ} → a ≢ pos zero → pos zero <ℤ (a *ℤ a)
sq_pos {a} f = go (compared (pos zero) a)
  where
    go : Compared (pos zero) a → pos zero <ℤ (a *ℤ a)
    go (below h) = *_pos h h
    go (same e) = absurd (f (sym e))
    go (above h) = *_neg_neg h h

-- a sum of three squares is positive, or all three numbers are 0
pub squares : (a b c : ℤ) → (pos zero <ℤ (a *ℤ a +ℤ b *ℤ b +ℤ c *ℤ c)) ⊎ ((a ≡ pos zero) × (b ≡ pos zero) × (c ≡ pos zero))
squares a b c = go (ℤ_discrete a (pos zero)) (ℤ_discrete b (pos zero)) (ℤ_discrete c (pos zero))
  where
    go : Dec (a ≡ pos zero) → Dec (b ≡ pos zero) → Dec (c ≡ pos zero) → (pos zero <ℤ (a *ℤ a +ℤ b *ℤ b +ℤ c *ℤ c)) ⊎ ((a ≡ pos zero) × (b ≡ pos zero) × (c ≡ pos zero))
    go (yes p) (yes q) (yes r) = inr (p, q, r)
    go (yes p) (yes q) (no r) = inl (+_nonneg_pos (+_nonneg (sq_nonneg a) (sq_nonneg b)) (sq_pos r))
    go (yes p) (no q) r = inl (+_pos_nonneg (+_nonneg_pos (sq_nonneg a) (sq_pos q)) (sq_nonneg c))
    go (no p) q r = inl (+_pos_nonneg (+_pos_nonneg (sq_pos p) (sq_nonneg b)) (sq_nonneg c))

-- ---- 0 < w, 0 ≤ w, w < 0 and w ≤ 0, by the parts of w
pub ruleset signs = (tt, lt_z_yes, le_z_yes, *_pos, *_neg_neg, +_pos_nonneg, +_nonneg_pos, sq_nonneg, *_nonneg, *_nonpos_nonpos, +_nonneg, *_pos_neg, *_nonneg_nonpos, *_neg_pos, *_nonpos_nonneg, neg_of_pos, neg_of_neg, neg_of_nonneg, neg_of_nonpos, <_diff, ≤_diff, <→≤)
