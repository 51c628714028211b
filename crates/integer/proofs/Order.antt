-- The order of ℤ. The tests `lt_z` and `le_z` are those of the difference against 0, so every law is one of differences: to show a < b, name a
-- w with 0 < w and show b − a ≡ w by `ring`.
use mathlib.Core.Path.{◌≡◌, refl, sym, ◌∙◌, ap, ap₂, subst}
use mathlib.Core.Logic.{◌⊎◌, inl, inr}
use mathlib.Core.Bool.{Bool, true, false, not}
use mathlib.Core.List.{[], ◌∷◌}
use Prim.Native.Nat.{ℕ, zero, suc, ◌+◌, zero-le}
use native.Mathlib.Omega.{arith}
use lib.Dec.{T, leb, ltb, leb-zero, leb-suc-zero, leb-suc-suc, le→leb, lt→ltb, ltb→lt}
use lib.IntN.{ℤ, pos, negsuc, suc_ℤ, pred_ℤ, neg_ℤ, ◌+ℤ◌, ◌-ℤ◌, suc-pred, +ℤ_idr, +ℤ_invr, +ℤ-suc_ℤ, +ℤ-pred_ℤ, -ℤ_one}
use lib.Signed.{lt_z, le_z, ◌≤ℤ◌, ◌<ℤ◌, le_z_yes, lt_z_yes, ≤ℤ_refl, clash_ℤ}
use Rattle.integer.proofs.Ring.{induct}
use Rattle.integer.proofs.Identity.{ring, reify, by_zero}

-- ---- the tests
leb_not : (m n : ℕ) → leb m n ≡ not (ltb n m)
leb_not zero zero = refl
leb_not zero (suc n) = leb-zero (suc n) ∙ ap not (sym (leb-suc-zero (suc n)))
leb_not (suc m) zero = leb-suc-zero m ∙ ap not (sym (leb-suc-suc zero m ∙ leb-zero m))
leb_not (suc m) (suc n) = leb-suc-suc m n ∙ leb_not m n ∙ ap not (sym (leb-suc-suc (suc n) m))

pub le_z_not : (a b : ℤ) → le_z a b ≡ not (lt_z b a)
le_z_not (pos a) (pos b) = leb_not a b
le_z_not (pos a) (negsuc b) = refl
le_z_not (negsuc a) (pos b) = refl
le_z_not (negsuc a) (negsuc b) = leb_not b a

lt_z_suc : (a b : ℤ) → lt_z (suc_ℤ a) (suc_ℤ b) ≡ lt_z a b
lt_z_suc (pos a) (pos b) = leb-suc-suc (suc a) b
lt_z_suc (pos a) (negsuc zero) = leb-suc-zero (suc a)
lt_z_suc (pos a) (negsuc (suc b)) = refl
lt_z_suc (negsuc zero) (pos b) = leb-suc-suc zero b ∙ leb-zero b
lt_z_suc (negsuc (suc a)) (pos b) = refl
lt_z_suc (negsuc zero) (negsuc zero) = refl
lt_z_suc (negsuc zero) (negsuc (suc b)) = sym (leb-suc-zero (suc b))
lt_z_suc (negsuc (suc a)) (negsuc zero) = sym (leb-suc-suc zero a ∙ leb-zero a)
lt_z_suc (negsuc (suc a)) (negsuc (suc b)) = sym (leb-suc-suc (suc b) a)

lt_z_shift : (c a b : ℤ) → lt_z (a +ℤ c) (b +ℤ c) ≡ lt_z a b
lt_z_shift c a b = induct (λ c. lt_z (a +ℤ c) (b +ℤ c) ≡ lt_z a b)
    (ap₂ lt_z (+ℤ_idr a) (+ℤ_idr b))
    (λ k ih. ap₂ lt_z (+ℤ-suc_ℤ a k) (+ℤ-suc_ℤ b k) ∙ lt_z_suc (a +ℤ k) (b +ℤ k) ∙ ih)
    (λ k ih. ap₂ lt_z (+ℤ-pred_ℤ a k) (+ℤ-pred_ℤ b k)
    ∙ sym (lt_z_suc (pred_ℤ (a +ℤ k)) (pred_ℤ (b +ℤ k)))
    ∙ ap₂ lt_z (suc-pred (a +ℤ k)) (suc-pred (b +ℤ k))
    ∙ ih)
    c

lt_z_diff : (a b : ℤ) → lt_z (pos zero) (b -ℤ a) ≡ lt_z a b
lt_z_diff a b = ap (λ z. lt_z z (b -ℤ a)) (sym (+ℤ_invr a)) ∙ lt_z_shift (neg_ℤ a) a b

le_z_diff : (a b : ℤ) → le_z (pos zero) (b -ℤ a) ≡ le_z a b
le_z_diff a b =
    le_z_not (pos zero) (b -ℤ a) ∙ ap not (ap (λ z. lt_z (b -ℤ a) z) (sym (+ℤ_invr a)) ∙ lt_z_shift (neg_ℤ a) b a) ∙ sym (le_z_not a b)

-- ---- an order and its difference
pub <_diff : {a b : ℤ} → a <ℤ b → pos zero <ℤ (b -ℤ a)
<_diff {a} {b} h = lt_z_yes (subst T (sym (lt_z_diff a b)) h.lt)

pub ≤_diff : {a b : ℤ} → a ≤ℤ b → pos zero ≤ℤ (b -ℤ a)
≤_diff {a} {b} h = le_z_yes (subst T (sym (le_z_diff a b)) h.le)

pub <_by : {a b w : ℤ} → pos zero <ℤ w → b -ℤ a ≡ w → a <ℤ b
<_by {a} {b} h e = lt_z_yes (subst T (ap (λ z. lt_z (pos zero) z) (sym e) ∙ lt_z_diff a b) h.lt)

pub ≤_by : {a b w : ℤ} → pos zero ≤ℤ w → b -ℤ a ≡ w → a ≤ℤ b
≤_by {a} {b} h e = le_z_yes (subst T (ap (λ z. le_z (pos zero) z) (sym e) ∙ le_z_diff a b) h.le)

-- ---- sums of what is not negative
pub +_nonneg : {a b : ℤ} → pos zero ≤ℤ a → pos zero ≤ℤ b → pos zero ≤ℤ (a +ℤ b)
+_nonneg {a} {b} h k = le_z_yes (go a b h.le k.le)
  where
    go : (a b : ℤ) → T (le_z (pos zero) a) → T (le_z (pos zero) b) → T (le_z (pos zero) (a +ℤ b))
    go (pos m) (pos n) h k = le→leb zero (m + n) zero-le
    go (pos m) (negsuc n) h k = absurd k
    go (negsuc m) b h k = absurd h

pub +_pos_nonneg : {a b : ℤ} → pos zero <ℤ a → pos zero ≤ℤ b → pos zero <ℤ (a +ℤ b)
+_pos_nonneg {a} {b} h k = lt_z_yes (go a b h.lt k.le)
  where
    go : (a b : ℤ) → T (lt_z (pos zero) a) → T (le_z (pos zero) b) → T (lt_z (pos zero) (a +ℤ b))
    go (pos m) (pos n) h k = lt→ltb zero (m + n) (omega (arith, ltb→lt zero m h))
    go (pos m) (negsuc n) h k = absurd k
    go (negsuc m) b h k = absurd h

pub +_nonneg_pos : {a b : ℤ} → pos zero ≤ℤ a → pos zero <ℤ b → pos zero <ℤ (a +ℤ b)
+_nonneg_pos {a} {b} h k = <_by (+_pos_nonneg k h) (ring (a ∷ b ∷ []) (search reify depth 40 fits 200000, tt))

-- ---- laws of the orders
pub <→≤ : {a b : ℤ} → a <ℤ b → a ≤ℤ b
<→≤ {a} {b} h = le_z_yes (go a b h.lt)
  where
    go : (a b : ℤ) → T (lt_z a b) → T (le_z a b)
    go (pos a) (pos b) t = le→leb a b (omega (arith, ltb→lt a b t))
    go (pos a) (negsuc b) t = t
    go (negsuc a) (pos b) t = t
    go (negsuc a) (negsuc b) t = le→leb b a (omega (arith, ltb→lt b a t))

pub ≡→≤ : {a b : ℤ} → a ≡ b → a ≤ℤ b
≡→≤ {a} e = subst (λ z. a ≤ℤ z) e (≤ℤ_refl a)

pub ≤ℤ_trans : {a b c : ℤ} → a ≤ℤ b → b ≤ℤ c → a ≤ℤ c
≤ℤ_trans {a} {b} {c} h k = ≤_by (+_nonneg (≤_diff h) (≤_diff k)) (ring (a ∷ b ∷ c ∷ []) (search reify depth 40 fits 200000, tt))

pub ≤ℤ-<ℤ_trans : {a b c : ℤ} → a ≤ℤ b → b <ℤ c → a <ℤ c
≤ℤ-<ℤ_trans {a} {b} {c} h k = <_by (+_nonneg_pos (≤_diff h) (<_diff k)) (ring (a ∷ b ∷ c ∷ []) (search reify depth 40 fits 200000, tt))

-- negation turns an order round
pub neg-< : {a b : ℤ} → a <ℤ b → neg_ℤ b <ℤ neg_ℤ a
neg-< {a} {b} h = <_by (<_diff h) (ring (a ∷ b ∷ []) (search reify depth 40 fits 200000, tt))

pub neg-≤ : {a b : ℤ} → a ≤ℤ b → neg_ℤ b ≤ℤ neg_ℤ a
neg-≤ {a} {b} h = ≤_by (≤_diff h) (ring (a ∷ b ∷ []) (search reify depth 40 fits 200000, tt))

-- which of two numbers is the greater
pub data Compared (a b : ℤ) : Type 0 where
  below : a <ℤ b → Compared a b
  same : a ≡ b → Compared a b
  above : b <ℤ a → Compared a b

pub compared : (a b : ℤ) → Compared a b
compared a b = go (b -ℤ a) refl
  where
    go : (w : ℤ) → b -ℤ a ≡ w → Compared a b
    go (pos zero) e = same (sym (by_zero e))
    go (pos (suc n)) e = below (<_by (lt_z_yes (lt→ltb zero (suc n) (omega arith))) e)
    go (negsuc n) e =
        above (<_by {w = pos (suc n)} (lt_z_yes (lt→ltb zero (suc n) (omega arith))) (ring (a ∷ b ∷ []) (search reify depth 40 fits 200000, tt) ∙ ap neg_ℤ e))

pub <_or-≥ : (a b : ℤ) → (a <ℤ b) ⊎ (b ≤ℤ a)
<_or-≥ a b = go (compared a b)
  where
    go : Compared a b → (a <ℤ b) ⊎ (b ≤ℤ a)
    go (below h) = inl h
    go (same e) = inr (≡→≤ (sym e))
    go (above h) = inr (<→≤ h)

pub ≤ℤ_antisym : {a b : ℤ} → a ≤ℤ b → b ≤ℤ a → a ≡ b
≤ℤ_antisym {a} {b} h k = go (compared a b)
  where
    go : Compared a b → a ≡ b
    go (below l) = clash_ℤ l k
    go (same e) = e
    go (above l) = clash_ℤ l h

-- whole numbers: nothing lies between a and a + 1
pub suc-≤ : {a b : ℤ} → a <ℤ b → (a +ℤ pos 1) ≤ℤ b
suc-≤ {a} {b} h = ≤_by (go (b -ℤ a) (<_diff h).lt) (ring (a ∷ b ∷ []) (search reify depth 40 fits 200000, tt))
  where
    pred_nonneg : (w : ℤ) → T (lt_z (pos zero) w) → T (le_z (pos zero) (pred_ℤ w))
    pred_nonneg (pos zero) t = absurd t
    pred_nonneg (pos (suc n)) t = le→leb zero n zero-le
    pred_nonneg (negsuc n) t = absurd t

    go : (w : ℤ) → T (lt_z (pos zero) w) → pos zero ≤ℤ (w -ℤ pos 1)
    go w t = le_z_yes (subst (λ z. T (le_z (pos zero) z)) (sym (-ℤ_one w)) (pred_nonneg w t))

pub <_suc : {a b : ℤ} → a <ℤ (b +ℤ pos 1) → a ≤ℤ b
<_suc {a} {b} h = ≤_by (≤_diff (suc-≤ h)) (ring (a ∷ b ∷ []) (search reify depth 40 fits 200000, tt))

pub ≤_suc : {a b : ℤ} → (a +ℤ pos 1) ≤ℤ b → a <ℤ b
≤_suc {a} {b} h = <_by (+_pos_nonneg {a = pos 1} (lt_z_yes tt) (≤_diff h)) (ring (a ∷ b ∷ []) (search reify depth 40 fits 200000, tt))

-- ---- sums
pub +_mono-≤ : {a b c d : ℤ} → a ≤ℤ b → c ≤ℤ d → (a +ℤ c) ≤ℤ (b +ℤ d)
+_mono-≤ {a} {b} {c} {d} h k = ≤_by (+_nonneg (≤_diff h) (≤_diff k)) (ring (a ∷ b ∷ c ∷ d ∷ []) (search reify depth 40 fits 200000, tt))

-- ---- what a test says, and what passes a test
true_t : (t : Bool) → T t → t ≡ true
true_t true h = refl
true_t false h = absurd h

pub lt_lt_z : {a b : ℤ} → a <ℤ b → lt_z a b ≡ true
lt_lt_z {a} {b} h = true_t (lt_z a b) h.lt

le_le_z : {a b : ℤ} → a ≤ℤ b → le_z a b ≡ true
le_le_z {a} {b} h = true_t (le_z a b) h.le

pub le_lt_z : {a b : ℤ} → b ≤ℤ a → lt_z a b ≡ false
le_lt_z {a} {b} h = go (lt_z a b) (sym (le_z_not b a) ∙ le_le_z h)
  where
    go : (t : Bool) → not t ≡ true → t ≡ false
    go true e = sym e
    go false e = refl
