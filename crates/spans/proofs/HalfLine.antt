-- Where a number that changes evenly along a row, slope A from B at column 0, is above 0: on all columns, on none, from a column on, or before
-- one. Quotients are of numbers not below 0, so rounding down and rounding toward zero are the same.
use mathlib.Core.Path.{◌≡◌, subst}
use mathlib.Core.Logic.{◌↔◌, ⊎_elim}
use mathlib.Core.List.{[], ◌∷◌}
use Prim.Native.Nat.{ℕ, ◌+◌, ◌*◌, ◌/◌, ◌≤◌, ◌<◌}
use native.Mathlib.Nat.{div-lt_iff_lt-mul}
use native.Mathlib.Omega.{arith}
use lib.Dec.{T, le→leb, ltb→lt, lt→ltb}
use lib.IntN.{ℤ, pos, negsuc, nat_abs, neg_ℤ, ◌-ℤ◌, ◌*ℤ◌}
use lib.Signed.{le_z, lt_z, ◌<ℤ◌, ◌≤ℤ◌, le_z_yes, lt_z_yes, clash_ℤ}
use Rattle.integer.proofs.Identity.{ring, reify}
use Rattle.integer.proofs.Order.{<_by, ≤_by, <_diff, ≤_diff, +_nonneg_pos, <_or-≥, suc-≤, ≤_suc, <_suc}
use Rattle.integer.proofs.Products.{*_nonneg, neg_of_neg, neg_of_nonpos}
use Rattle.spans.specs.Span.{number_at}
use Rattle.model.proofs.Tests.{lt_or_ge}

natural : (i : ℕ) → pos 0 ≤ℤ pos i
natural i = le_z_yes (le→leb 0 i (omega arith))

-- the multiples of d above n are those from n / d + 1 on
multiples_above : {n d : ℤ} → pos 0 ≤ℤ n → pos 0 <ℤ d → (i : ℕ) → (n <ℤ (d *ℤ pos i)) ↔ (nat_abs n / nat_abs d + 1 ≤ i)
multiples_above {n} {d} h k i = go n d h.le k.lt
  where
    go : (n d : ℤ) → T (le_z (pos 0) n) → T (lt_z (pos 0) d) → (n <ℤ (d *ℤ pos i)) ↔ (nat_abs n / nat_abs d + 1 ≤ i)
    go (pos n) (pos d) h k =
        let e = div-lt_iff_lt-mul {k = d} {x = n} {y = i} (ltb→lt 0 d k) in (
          λ (l : pos n <ℤ pos (d * i)). omega (arith, e.1 (omega (arith, ltb→lt n (d * i) l.lt))),
          λ l. lt_z_yes (lt→ltb n (d * i) (omega (arith, e.0 (omega arith)))),
        )
    go (pos n) (negsuc d) h k = absurd k
    go (negsuc n) d h k = absurd h

module _ (A B : ℤ) (i : ℕ) where
  -- where a number is not above 0, the number of the opposite slope from 1 − B is above 0
  pub opposite : (number_at A B i ≤ℤ pos 0) ↔ (pos 0 <ℤ number_at (neg_ℤ A) (pos 1 -ℤ B) i)
  opposite = (
    λ h. ≤_suc (≤_by (≤_diff h) (ring (A ∷ B ∷ pos i ∷ []) (search reify depth 40 fits 200000, tt))),
    λ h. <_suc (<_by (<_diff h) (ring (A ∷ B ∷ pos i ∷ []) (search reify depth 40 fits 200000, tt))),
  )

  pub opposite_above : pos 0 <ℤ number_at A B i → number_at (neg_ℤ A) (pos 1 -ℤ B) i ≤ℤ pos 0
  opposite_above h = ≤_by (≤_diff (suc-≤ h)) (ring (A ∷ B ∷ pos i ∷ []) (search reify depth 40 fits 200000, tt))

module _ {A B : ℤ} where
  pub all_columns : pos 0 ≤ℤ A → pos 0 <ℤ B → (i : ℕ) → pos 0 <ℤ number_at A B i
  all_columns h k i = +_nonneg_pos (*_nonneg h (natural i)) k

  pub columns_from : pos 0 <ℤ A → B ≤ℤ pos 0 → (i : ℕ) → (pos 0 <ℤ number_at A B i) ↔ (nat_abs (neg_ℤ B) / nat_abs A + 1 ≤ i)
  columns_from h k i =
      let e = multiples_above (neg_of_nonpos k) h i in (
        λ l. e.0 (<_by l (ring (A ∷ B ∷ pos i ∷ []) (search reify depth 40 fits 200000, tt))),
        λ l. <_by (<_diff (e.1 l)) (ring (A ∷ B ∷ pos i ∷ []) (search reify depth 40 fits 200000, tt)),
      )

-- the columns that the law for the opposite number leaves
pub columns_before : {A B : ℤ} → A <ℤ pos 0 → pos 0 <ℤ B → (i : ℕ) → (pos 0 <ℤ number_at A B i) ↔ (i < nat_abs (B -ℤ pos 1) / nat_abs (neg_ℤ A) + 1)
columns_before {A} {B} h k i = (
  λ l. ⊎_elim (λ (t : i < q). t) (λ (t : q ≤ i). clash_ℤ (past.1 t) (opposite_above A B i l)) (lt_or_ge i q),
  λ l. ⊎_elim (λ (t : pos 0 <ℤ number_at A B i). t) (λ t. absurd (omega (arith, past.0 ((opposite A B i).0 t)))) (<_or-≥ (pos 0) (number_at A B i)),
)
  where
    q : ℕ
    q = nat_abs (B -ℤ pos 1) / nat_abs (neg_ℤ A) + 1

    less_one : neg_ℤ (pos 1 -ℤ B) ≡ B -ℤ pos 1
    less_one = ring (B ∷ []) (search reify depth 40 fits 200000, tt)

    past : (pos 0 <ℤ number_at (neg_ℤ A) (pos 1 -ℤ B) i) ↔ (q ≤ i)
    past =
        subst (λ (z : ℤ). (pos 0 <ℤ number_at (neg_ℤ A) (pos 1 -ℤ B) i) ↔ (nat_abs z / nat_abs (neg_ℤ A) + 1 ≤ i)) less_one
        (columns_from (neg_of_neg h) (≤_by (≤_diff (suc-≤ k)) (ring (B ∷ []) (search reify depth 40 fits 200000, tt))) i)
