-- A span clipped but for lit columns: what lies beside them is told by the number right beside them.
use mathlib.Core.Path.{◌≡◌, subst, ◌∙◌}
use mathlib.Core.Logic.{◌↔◌, ⊎_elim}
use mathlib.Core.Bool.{false, ◌&&◌}
use Prim.Native.Nat.{ℕ, ◌-◌, ◌≤◌, ◌<◌}
use native.Mathlib.Omega.{arith}
use lib.Dec.{T}
use lib.IntN.{ℤ, pos}
use lib.Signed.{lt_z, ◌<ℤ◌, ◌≤ℤ◌, lt_z_yes, clash_ℤ}
use Rattle.model.proofs.Tests.{both, lt_or_ge, same_test}
use Rattle.spans.specs.declared.Span.{Span}
use Rattle.spans.specs.Span.{covers, number_at, Clipped, BesideLit, ClippedBut}
use Rattle.spans.proofs.Clipping.{covers_says, still_rising, still_falling}
use Rattle.spans.proofs.Rows.{no_columns}

-- a column from the first lit one on that is not lit comes after them
after_lit : (lit : Span) (i : ℕ) → covers lit i ≡ false → lit.first ≤ i → lit.end ≤ i
after_lit lit i f h = ⊎_elim (λ (l : i < lit.end). absurd (subst T f ((covers_says lit i).1 (h, l)))) (λ l. l) (lt_or_ge i lit.end)

module _ {A B : ℤ} {lit s : Span} where
  -- by the columns that are not lit and where the number is above 0
  by_columns :
      {r : Span} → r.end ≤ s.end →
      ((i : ℕ) → covers lit i ≡ false → pos 0 <ℤ number_at A B i → ((r.first ≤ i) × (i < r.end)) ↔ ((s.first ≤ i) × (i < s.end))) →
      BesideLit lit A B s r
  by_columns {r} h agree =
      record {
        same = λ i f.
            same_test (covers r i && lt_z (pos 0) (number_at A B i)) (covers s i && lt_z (pos 0) (number_at A B i))
            (λ t.
            let p = (both (covers r i) (lt_z (pos 0) (number_at A B i))).0 t in
            (both (covers s i) (lt_z (pos 0) (number_at A B i))).1 ((covers_says s i).1 ((agree i f (lt_z_yes p.1)).0 ((covers_says r i).0 p.0)), p.1))
            (λ t.
            let p = (both (covers s i) (lt_z (pos 0) (number_at A B i))).0 t in
            (both (covers r i) (lt_z (pos 0) (number_at A B i))).1 ((covers_says r i).1 ((agree i f (lt_z_yes p.1)).1 ((covers_says s i).0 p.0)), p.1));
        limited = h;
      }

  -- it falls, and is not above 0 right after the lit columns
  pub beside_before :
      A <ℤ pos 0 → number_at A B lit.end ≤ℤ pos 0 → lit.first < s.end → BesideLit lit A B s (record { first = s.first; end = lit.first })
  beside_before n h l =
      by_columns (omega arith)
      (λ i f above. (
        λ p. (p.0, omega (arith, p.1)),
        λ p.
            (p.0, ⊎_elim (λ (b : i < lit.first). b) (λ b. clash_ℤ (still_falling A B n (after_lit lit i f b) above) h) (lt_or_ge i lit.first)),
      ))

  -- it does not fall, and is not above 0 right before them
  pub beside_after :
      pos 0 ≤ℤ A → number_at A B (lit.first - 1) ≤ℤ pos 0 → s.first < lit.first → BesideLit lit A B s (record { first = lit.end; end = s.end })
  beside_after n h l =
      by_columns (omega arith)
      (λ i f above. (
        λ p. (omega (arith, not_before i above), p.1),
        λ p. (after_lit lit i f (not_before i above), p.1),
      ))
    where
      not_before : (i : ℕ) → pos 0 <ℤ number_at A B i → lit.first ≤ i
      not_before i above = ⊎_elim (λ (b : i < lit.first). clash_ℤ (still_rising A B n (omega arith) above) h) (λ b. b) (lt_or_ge i lit.first)

  -- ---- clipped but for the lit columns
  pub but_none : Clipped A B s s → ClippedBut lit A B s s
  but_none c = record { exact = λ i f. c.exact i; limited = omega arith }

  module _ {left : Span} (b : BesideLit lit A B s left) where
    pub but_all : left.end ≤ left.first → ClippedBut lit A B s left
    but_all h = record { exact = λ i f. no_columns left h i ∙ rw (no_columns left h i) at (b.same i f); limited = b.limited }

    pub but_some : {r : Span} → Clipped A B left r → ClippedBut lit A B s r
    but_some c = record { exact = λ i f. c.exact i ∙ b.same i f; limited = omega (arith, c.shaped.limited, b.limited) }
