-- A span clipped to the columns where a number that changes evenly along the row is above 0, by the number's signs at the span's two ends.
use mathlib.Core.Path.{◌≡◌, refl, ap, subst}
use mathlib.Core.Logic.{◌↔◌, inl, inr, ⊎_elim}
use mathlib.Core.List.{[], ◌∷◌}
use mathlib.Core.Bool.{◌&&◌}
use Prim.Native.Nat.{ℕ, ◌+◌, ◌-◌, ◌/◌, ◌≤◌, ◌<◌}
use native.Mathlib.Omega.{arith}
use lib.Dec.{T, leb, ltb, leb→le, le→leb, ltb→lt, lt→ltb}
use lib.IntN.{ℤ, pos, nat_abs, neg_ℤ, ◌+ℤ◌, ◌-ℤ◌, ◌*ℤ◌}
use lib.Signed.{lt_z, ◌<ℤ◌, ◌≤ℤ◌, lt_z_yes, clash_ℤ}
use Rattle.integer.proofs.Identity.{ring, reify, combine₁}
use Rattle.integer.proofs.Order.{<_by, <_diff, <→≤, <_or-≥, <_suc}
use Rattle.integer.proofs.Products.{neg_of_neg}
use Rattle.model.proofs.Tests.{both, lt_or_ge, same_test}
use Rattle.spans.specs.declared.Span.{Span}
use Rattle.spans.specs.Span.{covers, Shaped, number_at, Clipped}
use Rattle.spans.proofs.HalfLine.{opposite, opposite_above, all_columns, columns_from, columns_before}

pub covers_says : (s : Span) (i : ℕ) → T (covers s i) ↔ ((s.first ≤ i) × (i < s.end))
covers_says s i = (
  λ t. let p = (both (leb s.first i) (ltb i s.end)).0 t in (leb→le s.first i p.0, ltb→lt i s.end p.1),
  λ p. (both (leb s.first i) (ltb i s.end)).1 (le→leb s.first i p.0, lt→ltb i s.end p.1),
)

module _ (A B : ℤ) where
  -- the same numbers, counted from column f on, and from column l back
  ahead : {f i : ℕ} → f ≤ i → number_at A (number_at A B f) (i - f) ≡ number_at A B i
  ahead {f} {i} h = go (pos (i - f)) (pos f) (pos i) (ap pos (omega arith))
    where
      go : (x y z : ℤ) → x +ℤ y ≡ z → A *ℤ x +ℤ (A *ℤ y +ℤ B) ≡ A *ℤ z +ℤ B
      go x y z e = combine₁ A e (ring (A ∷ B ∷ x ∷ y ∷ z ∷ []) (search reify depth 40 fits 200000, tt))

  back : {i l : ℕ} → i ≤ l → number_at (neg_ℤ A) (number_at A B l) (l - i) ≡ number_at A B i
  back {i} {l} h = go (pos (l - i)) (pos i) (pos l) (ap pos (omega arith))
    where
      go : (x y z : ℤ) → x +ℤ y ≡ z → neg_ℤ A *ℤ x +ℤ (A *ℤ z +ℤ B) ≡ A *ℤ y +ℤ B
      go x y z e = combine₁ (neg_ℤ A) e (ring (A ∷ B ∷ x ∷ y ∷ z ∷ []) (search reify depth 40 fits 200000, tt))

  -- above 0 on the way that it rises
  pub still_rising : {f i : ℕ} → pos 0 ≤ℤ A → f ≤ i → pos 0 <ℤ number_at A B f → pos 0 <ℤ number_at A B i
  still_rising {f} {i} n p h = subst (pos 0 <ℤ◌) (ahead p) (all_columns n h (i - f))

  pub still_falling : {i l : ℕ} → A <ℤ pos 0 → i ≤ l → pos 0 <ℤ number_at A B l → pos 0 <ℤ number_at A B i
  still_falling {i} {l} n p h = subst (pos 0 <ℤ◌) (back p) (all_columns (<→≤ (neg_of_neg n)) h (l - i))

  -- above 0 at both ends, above 0 between them
  above : {f l i : ℕ} → pos 0 <ℤ number_at A B f → pos 0 <ℤ number_at A B l → f ≤ i → i ≤ l → pos 0 <ℤ number_at A B i
  above {f} {l} {i} hf hl p q =
      ⊎_elim
      (λ (n : A <ℤ pos 0). still_falling n q hl)
      (λ (n : pos 0 ≤ℤ A). still_rising n p hf)
      (<_or-≥ A (pos 0))

  -- above 0 at the first end alone, it falls, and lies above 0 at column 0
  pub falls : {f l : ℕ} → f ≤ l → pos 0 <ℤ number_at A B f → number_at A B l ≤ℤ pos 0 → (A <ℤ pos 0) × (pos 0 <ℤ B)
  falls {f} {l} h hf hl =
      ⊎_elim
      (λ (n : A <ℤ pos 0). (
        n,
        subst (pos 0 <ℤ◌)
            (ring (A ∷ B ∷ pos f ∷ []) (search reify depth 40 fits 200000, tt))
            (all_columns (<→≤ (neg_of_neg n)) hf f),
      ))
      (λ (n : pos 0 ≤ℤ A). clash_ℤ (still_rising n h hf) hl)
      (<_or-≥ A (pos 0))

-- the same of the opposite number
module _ (A B : ℤ) where
  not_above_lem : {f l i : ℕ} → number_at A B f ≤ℤ pos 0 → number_at A B l ≤ℤ pos 0 → f ≤ i → i ≤ l → number_at A B i ≤ℤ pos 0
  not_above_lem {f} {l} {i} hf hl p q =
      (opposite A B i).1 (above (neg_ℤ A) (pos 1 -ℤ B) ((opposite A B f).0 hf) ((opposite A B l).0 hl) p q)

  pub rises : {f l : ℕ} → f ≤ l → number_at A B f ≤ℤ pos 0 → pos 0 <ℤ number_at A B l → (pos 0 <ℤ A) × (B ≤ℤ pos 0)
  rises {f} {l} h hf hl =
      let d = falls (neg_ℤ A) (pos 1 -ℤ B) h ((opposite A B f).0 hf) (opposite_above A B l hl) in (
        <_by (<_diff d.0) (ring (A ∷ []) (search reify depth 40 fits 200000, tt)),
        <_suc (<_by (<_diff d.1) (ring (B ∷ []) (search reify depth 40 fits 200000, tt))),
      )

-- a clipped span, by its columns
clipped :
    {A B : ℤ} {s r : Span} →
    ((i : ℕ) → s.first ≤ i → i < s.end → pos 0 <ℤ number_at A B i → (r.first ≤ i) × (i < r.end)) →
    ((i : ℕ) → r.first ≤ i → i < r.end → (s.first ≤ i) × (i < s.end) × (pos 0 <ℤ number_at A B i)) →
    Shaped s.end r →
    Clipped A B s r
clipped {A} {B} {s} {r} f g h = record { exact = exact; shaped = h }
  where
    exact : (i : ℕ) → covers r i ≡ (covers s i && lt_z (pos 0) (number_at A B i))
    exact i =
        same_test (covers r i) (covers s i && lt_z (pos 0) (number_at A B i))
        (λ t.
        let p = (covers_says r i).0 t in
        let q = g i p.0 p.1 in
        (both (covers s i) (lt_z (pos 0) (number_at A B i))).1 ((covers_says s i).1 (q.0, q.1), q.2.lt))
        (λ t.
        let p = (both (covers s i) (lt_z (pos 0) (number_at A B i))).0 t in
        let q = (covers_says s i).0 p.0 in
        (covers_says r i).1 (f i q.0 q.1 (lt_z_yes p.1)))

module _ {A B : ℤ} {s : Span} (some : s.first < s.end) where
  whole : ((i : ℕ) → s.first ≤ i → i < s.end → pos 0 <ℤ number_at A B i) → Clipped A B s s
  whole f = clipped (λ i p q n. (p, q)) (λ i p q. (p, q, f i p q)) (record { written = inl some; limited = omega arith })

  -- above 0 where it is least
  pub whole_rising : pos 0 ≤ℤ A → pos 0 <ℤ number_at A B s.first → Clipped A B s s
  whole_rising n h = whole (λ i p q. still_rising A B n p h)

  pub whole_falling : A <ℤ pos 0 → pos 0 <ℤ number_at A B (s.end - 1) → Clipped A B s s
  whole_falling n h = whole (λ i p q. still_falling A B n (omega arith) h)

  pub nothing : number_at A B s.first ≤ℤ pos 0 → number_at A B (s.end - 1) ≤ℤ pos 0 → Clipped A B s (record { first = 0; end = 0 })
  nothing hf hl =
      clipped
      (λ i p q n. clash_ℤ n (not_above_lem A B hf hl p (omega arith)))
      (λ i p q. absurd (omega (arith, q)))
      (record { written = inr (refl, refl); limited = omega arith })

  pub cut_end :
      pos 0 <ℤ number_at A B s.first →
      number_at A B (s.end - 1) ≤ℤ pos 0 →
      {e : ℕ} →
      e ≡ nat_abs (B -ℤ pos 1) / nat_abs (neg_ℤ A) + 1 →
      Clipped A B s (record { first = s.first; end = e })
  cut_end hf hl {e} is =
      clipped
      (λ i p q n. (p, (in_end i).0 n))
      (λ i p q. (p, omega (arith, q, end_above), (in_end i).1 q))
      (record { written = inl ((in_end s.first).0 hf); limited = omega (arith, end_above) })
    where
      in_end : (i : ℕ) → (pos 0 <ℤ number_at A B i) ↔ (i < e)
      in_end i = let d = falls A B (omega arith) hf hl in rw is (columns_before d.0 d.1 i)

      end_above : e < s.end
      end_above = ⊎_elim (λ (l : s.end - 1 < e). clash_ℤ ((in_end (s.end - 1)).1 l) hl) (λ l. omega (arith, l)) (lt_or_ge (s.end - 1) e)

  pub cut_first :
      number_at A B s.first ≤ℤ pos 0 →
      pos 0 <ℤ number_at A B (s.end - 1) →
      {f : ℕ} →
      f ≡ nat_abs (neg_ℤ B) / nat_abs A + 1 →
      Clipped A B s (record { first = f; end = s.end })
  cut_first hf hl {f} is =
      clipped
      (λ i p q n. ((from_first i).0 n, q))
      (λ i p q. (omega (arith, p, first_below), q, (from_first i).1 p))
      (record { written = inl (omega (arith, (from_first (s.end - 1)).0 hl)); limited = omega arith })
    where
      from_first : (i : ℕ) → (pos 0 <ℤ number_at A B i) ↔ (f ≤ i)
      from_first i = let d = rises A B (omega arith) hf hl in rw is (columns_from d.0 d.1 i)

      first_below : s.first < f
      first_below = ⊎_elim (λ (l : s.first < f). l) (λ l. clash_ℤ ((from_first s.first).1 l) hf) (lt_or_ge s.first f)
