-- The sign of a number, −1, 0 or 1, and numbers of the same sign, so that a fact and its mirror image are proved once.
use mathlib.Core.Path.{◌≡◌, refl, sym, ◌∙◌, ap, subst}
use mathlib.Core.Logic.{◌↔◌, ◌≢◌, ◌⊎◌, inl, inr}
use mathlib.Core.List.{[], ◌∷◌}
use Prim.Native.Nat.{ℕ, zero, suc, ◌*◌, ◌<◌}
use native.Mathlib.Nat.{mul-pos, zero-lt-suc}
use native.Mathlib.Omega.{arith}
use lib.Dec.{T, lt→ltb, ltb→lt}
use lib.IntN.{ℤ, pos, negsuc, neg_ℤ, nat_abs, ◌+ℤ◌, ◌*ℤ◌, zero-*ℤ, *ℤ-zero, *ℤ_comm, pos-ne-negsuc}
use lib.Signed.{lt_z, ◌≤ℤ◌, ◌<ℤ◌, lt_z_yes, clash_ℤ}
use Rattle.integer.specs.Magnitude.{sign_of}
use Rattle.integer.proofs.Identity.{ring, reify}
use Rattle.integer.proofs.Order.{<_by, ≤_by, <→≤, +_pos_nonneg, Compared, below, same, above, compared}
use Rattle.integer.proofs.Products.{*_pos, *_nonneg, *_pos_cancel, *_nonneg_cancel, zero_product, sq_pos, pos→≢}

sign_neg : (a : ℤ) → sign_of (neg_ℤ a) ≡ neg_ℤ (sign_of a)
unfolding sign_of
sign_neg (pos zero) = refl
sign_neg (pos (suc n)) = refl
sign_neg (negsuc n) = refl

sign_of-ℕ : (n : ℕ) → zero < n → sign_of (pos n) ≡ pos 1
unfolding sign_of
sign_of-ℕ zero h = absurd (omega arith)
sign_of-ℕ (suc n) h = refl

sign-* : (a b : ℤ) → sign_of (a *ℤ b) ≡ sign_of a *ℤ sign_of b
unfolding sign_of
sign-* (pos zero) b = ap sign_of (zero-*ℤ b) ∙ sym (zero-*ℤ (sign_of b))
sign-* (pos (suc m)) (pos zero) = ap sign_of (*ℤ-zero (pos (suc m)))
sign-* (pos (suc m)) (pos (suc n)) = sign_of-ℕ (suc m * suc n) (mul-pos (zero-lt-suc m) (zero-lt-suc n))
sign-* (pos (suc m)) (negsuc n) = sign_neg (pos (suc m * suc n)) ∙ ap neg_ℤ (sign_of-ℕ (suc m * suc n) (mul-pos (zero-lt-suc m) (zero-lt-suc n)))
sign-* (negsuc m) (pos zero) = ap sign_of (*ℤ-zero (negsuc m))
sign-* (negsuc m) (pos (suc n)) = sign_neg (pos (suc m * suc n)) ∙ ap neg_ℤ (sign_of-ℕ (suc m * suc n) (mul-pos (zero-lt-suc m) (zero-lt-suc n)))
sign-* (negsuc m) (negsuc n) = sign_of-ℕ (suc m * suc n) (mul-pos (zero-lt-suc m) (zero-lt-suc n))

sign_pos : (a : ℤ) → (sign_of a ≡ pos 1) ↔ (pos zero <ℤ a)
unfolding sign_of
sign_pos a = (λ e. to a e, λ h. from a h.lt)
  where
    to : (a : ℤ) → sign_of a ≡ pos 1 → pos zero <ℤ a
    to (pos zero) e = absurd (omega (arith, ap nat_abs e))
    to (pos (suc n)) e = lt_z_yes (lt→ltb zero (suc n) (zero-lt-suc n))
    to (negsuc n) e = absurd (pos-ne-negsuc 1 0 (sym e))

    from : (a : ℤ) → T (lt_z (pos zero) a) → sign_of a ≡ pos 1
    from (pos n) t = sign_of-ℕ n (ltb→lt zero n t)
    from (negsuc n) t = absurd t

-- ---- both positive or both negative
pub record SameSign (a b : ℤ) : Type 0 where
  pub agree : pos zero <ℤ (a *ℤ b)

pub same_sym : {a b : ℤ} → SameSign a b → SameSign b a
same_sym {a} {b} h = record { agree = subst (λ z. pos zero <ℤ z) (*ℤ_comm a b) h.agree }

pub same-≢ : {a b : ℤ} → SameSign a b → a ≢ pos zero
same-≢ {b = b} h e = pos→≢ h.agree (ap (λ z. z *ℤ b) e ∙ zero-*ℤ b)

pub same_refl : {a : ℤ} → a ≢ pos zero → SameSign a a
same_refl f = record { agree = sq_pos f }

pub same_neg : {a b : ℤ} → SameSign a b → SameSign (neg_ℤ a) (neg_ℤ b)
same_neg {a} {b} h = record { agree = <_by h.agree (ring (a ∷ b ∷ []) (search reify depth 40 fits 200000, tt)) }

pub same_scale : {s a k : ℤ} → pos zero <ℤ k → SameSign s a → SameSign s (k *ℤ a)
same_scale {s} {a} {k} p h = record { agree = <_by (*_pos p h.agree) (ring (s ∷ a ∷ k ∷ []) (search reify depth 40 fits 200000, tt)) }

pub same_unscale : {s a k : ℤ} → pos zero <ℤ k → SameSign s (k *ℤ a) → SameSign s a
same_unscale {s} {a} {k} p h =
    record { agree = *_pos_cancel p (<_by h.agree (ring (s ∷ a ∷ k ∷ []) (search reify depth 40 fits 200000, tt))) }

-- what agrees with a positive number is positive
pub same_pos : {s a : ℤ} → pos zero <ℤ s → SameSign s a → pos zero <ℤ a
same_pos p h = *_pos_cancel p h.agree

-- by the sign
same_sign : {a b : ℤ} → SameSign a b → sign_of a ≡ sign_of b
unfolding sign_of
same_sign {a} {b} h = go a b (sym (sign-* a b) ∙ (sign_pos (a *ℤ b)).1 h.agree)
  where
    go : (a b : ℤ) → sign_of a *ℤ sign_of b ≡ pos 1 → sign_of a ≡ sign_of b
    go (pos zero) (pos zero) e = refl
    go (pos zero) (pos (suc n)) e = absurd (omega (arith, ap nat_abs e))
    go (pos zero) (negsuc n) e = absurd (omega (arith, ap nat_abs e))
    go (pos (suc m)) (pos zero) e = absurd (omega (arith, ap nat_abs e))
    go (pos (suc m)) (pos (suc n)) e = refl
    go (pos (suc m)) (negsuc n) e = absurd (pos-ne-negsuc 1 0 (sym e))
    go (negsuc m) (pos zero) e = absurd (omega (arith, ap nat_abs e))
    go (negsuc m) (pos (suc n)) e = absurd (pos-ne-negsuc 1 0 (sym e))
    go (negsuc m) (negsuc n) e = refl

sign_same : {a b : ℤ} → sign_of a ≡ sign_of b → a ≢ pos zero → SameSign a b
sign_same {a} {b} e f =
    record { agree = (sign_pos (a *ℤ b)).0 (sign-* a b ∙ ap (λ z. sign_of a *ℤ z) (sym e) ∙ sym (sign-* a a) ∙ (sign_pos (a *ℤ a)).1 (sq_pos f)) }

pub same_trans : {a b c : ℤ} → SameSign a b → SameSign b c → SameSign a c
same_trans h k = sign_same (same_sign h ∙ same_sign k) (same-≢ h)

-- ---- not of opposite signs
pub record WeakSign (s a : ℤ) : Type 0 where
  pub agree : pos zero ≤ℤ (s *ℤ a)

pub same_weak-+ : {s a b : ℤ} → SameSign s a → WeakSign s b → SameSign s (a +ℤ b)
same_weak-+ {s} {a} {b} h k = record { agree = <_by (+_pos_nonneg h.agree k.agree) (ring (s ∷ a ∷ b ∷ []) (search reify depth 40 fits 200000, tt)) }

pub weak_scale : {s a k : ℤ} → pos zero ≤ℤ k → WeakSign s a → WeakSign s (k *ℤ a)
weak_scale {s} {a} {k} p h = record { agree = ≤_by (*_nonneg p h.agree) (ring (s ∷ a ∷ k ∷ []) (search reify depth 40 fits 200000, tt)) }

-- s may be changed for t of the same sign
pub weak_trans : {s t a : ℤ} → SameSign s t → WeakSign s a → WeakSign t a
weak_trans {s} {t} {a} h k = record { agree = *_nonneg_cancel (sq_pos (same-≢ h)) (≤_by (*_nonneg (<→≤ h.agree) k.agree) (ring (s ∷ t ∷ a ∷ []) (search reify depth 40 fits 200000, tt))) }

-- a number that is neither 0 nor opposed has the sign
pub weak_same : {s a : ℤ} → s ≢ pos zero → a ≢ pos zero → WeakSign s a → SameSign s a
weak_same {s} {a} f g h = go (compared (pos zero) (s *ℤ a))
  where
    none : (s ≡ pos zero) ⊎ (a ≡ pos zero) → SameSign s a
    none (inl e) = absurd (f e)
    none (inr e) = absurd (g e)

    go : Compared (pos zero) (s *ℤ a) → SameSign s a
    go (below l) = record { agree = l }
    go (same e) = none (zero_product s a (sym e))
    go (above l) = clash_ℤ l h.agree
