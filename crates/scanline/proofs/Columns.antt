-- Painting over a set of columns of a row: a span's, and those whose rays meet a patch.
use mathlib.Core.Path.{◌≡◌, refl, sym, ap, ◌∙◌}
use mathlib.Core.Logic.{◌⊎◌, inl, inr, ⊎_elim}
use mathlib.Core.Bool.{Bool, true, false, not, ◌&&◌, ◌||◌, and-true, and-false, false≢true}
use mathlib.Core.List.{List}
use Prim.Native.Nat.{ℕ, zero, suc, ◌+◌, ◌-◌, ◌≤◌, ◌<◌}
use native.Mathlib.Omega.{arith}
use borrow.Author.Tests.{lt-leb, le-leb, lt-ltb, le-ltb}
use lib.Dec.{leb}
use lib.ListN.{length}
use Rattle.model.specs.Lists.{any, range}
use Rattle.model.specs.Row.{row_of, after_span}
use Rattle.model.specs.Map.{map_row}
use Rattle.segments.specs.Columns.{in_span, all_lit}
use Rattle.laying.specs.Laid.{Lays}
use Rattle.rows.specs.Span.{Reports}
use Rattle.rows.specs.declared.Laid.{Laid}
use Rattle.model.proofs.LitMap.{map_congr}
use Rattle.segments.proofs.Rows.{row_congr}
use Rattle.segments.proofs.Tallies.{tally_congr, tally_clear}
use Rattle.segments.proofs.Painting.{painted_congr, painted_none}
use Rattle.spans.specs.declared.Span.{Span}
use Rattle.spans.specs.Span.{covers}
use Rattle.model.proofs.Tests.{lt_or_ge}
use Rattle.scanline.specs.Laying.{ColumnsPainted, ColumnsLaid}

-- where no column is unlit, each is lit
none_from : (unlit : ℕ → Bool) (a n : ℕ) → not (any unlit (range a n)) ≡ true → (i : ℕ) → a ≤ i → i < a + n → unlit i ≡ false
none_from unlit a zero e i h k = absurd (omega arith)
none_from unlit a (suc n) e i h k = go (unlit a) refl e (λ f. none_from unlit (suc a) n f i) (lt_or_ge a i)
  where
    go : (b : Bool) → unlit a ≡ b → not (b || any unlit (range (suc a) n)) ≡ true
        → (not (any unlit (range (suc a) n)) ≡ true → suc a ≤ i → i < suc a + n → unlit i ≡ false)
        → (a < i) ⊎ (i ≤ a) → unlit i ≡ false
    go true u f rest place = absurd (false≢true f)
    go false u f rest (inl l) = rest f l (omega arith)
    go false u f rest (inr l) = ap unlit (omega arith) ∙ u

pub each_lit : (width : ℕ) (unlit : ℕ → Bool) → all_lit width unlit ≡ true → (i : ℕ) → i < width → unlit i ≡ false
unfolding all_lit
each_lit width unlit e i h = none_from unlit 0 width e i (omega arith) (omega arith)

under : (u : Bool) {a b : Bool} (f : Bool → Bool) → (u ≡ true → a ≡ b) → (u && f a) ≡ (u && f b)
under true f h = ap f (h refl)
under false f h = refl

-- Sets of columns leave the same where they agree on the unlit ones: the others are lit already.
pub columns_congr :
    {columns columns' : ℕ → Bool} {panel : ℕ} {row words cells row' words' cells' : List ℕ} {lit : ℕ} →
    ((unlit : ℕ → Bool) → row ≡ row_of (length cells) unlit → (i : ℕ) → i < length cells → unlit i ≡ true → columns i ≡ columns' i) →
    ColumnsLaid columns panel row words cells row' words' cells' lit →
    ColumnsLaid columns' panel row words cells row' words' cells' lit
columns_congr {columns} {columns'} {panel} {row} {words} {cells} {row'} {words'} {cells'} {lit} same h =
    record { laid = λ unlit e f. go unlit (same unlit e) (h.laid unlit e f) }
  where
    go : (unlit : ℕ → Bool) → ((i : ℕ) → i < length cells → unlit i ≡ true → columns i ≡ columns' i)
        → ColumnsPainted columns panel unlit cells row' words' cells' lit → ColumnsPainted columns' panel unlit cells row' words' cells' lit
    go unlit agree p =
        record {
          row_is = p.row_is ∙ row_congr (length cells) _ _ (λ i l. under (unlit i) not (agree i l));
          words_are = p.words_are ∙ map_congr (length cells) _ _ (λ i l. under (unlit i) not (agree i l));
          cells_are = p.cells_are ∙ painted_congr _ _ panel cells (λ i l. under (unlit i) (λ (b : Bool). b) (agree i l));
          lit_is = p.lit_is ∙ tally_congr _ _ (length cells) (λ i l. under (unlit i) (λ (b : Bool). b) (agree i l));
        }

-- the columns of a span, whose last one is before its end
up_to_end : (s : Span) (i : ℕ) → s.first < s.end → in_span s.first (s.end - 1) i ≡ covers s i
up_to_end s i h =
    ⊎_elim
    (λ (l : i < s.end). rw (lt-ltb i s.end l, le-leb i (s.end - 1) (omega arith)))
    (λ (l : s.end ≤ i). rw (le-ltb i s.end l, lt-leb i (s.end - 1) (omega arith)))
    (lt_or_ge i s.end)

outside : (s : Span) (i : ℕ) → s.end ≤ s.first → covers s i ≡ false
outside s i h =
    ⊎_elim
    (λ (l : i < s.end). rw (lt-leb s.first i (omega arith)))
    (λ (l : s.end ≤ i). rw (le-ltb i s.end l) (and-false (leb s.first i)))
    (lt_or_ge i s.end)

pub span_laid :
    {s : Span} {panel : ℕ} {row words cells row' words' cells' : List ℕ} {r : Laid} →
    s.first < s.end →
    ((unlit : ℕ → Bool) → row ≡ row_of (length cells) unlit → Lays unlit s.first (s.end - 1) panel cells row' cells') →
    ((unlit : ℕ → Bool) → row ≡ row_of (length cells) unlit → Reports unlit s.first (s.end - 1) (length cells) r.full r.lit r.looked) →
    ((unlit : ℕ → Bool) → row ≡ row_of (length cells) unlit → words' ≡ map_row (length cells) (after_span unlit s.first (s.end - 1))) →
    ColumnsLaid (covers s) panel row words cells row' words' cells' r.lit
span_laid {s} {panel} {row} {words} {cells} {row'} {words'} {cells'} {r} h lays reports lights =
    columns_congr {columns = in_span s.first (s.end - 1)} (λ unlit e i l u. up_to_end s i h)
    (record {
      laid = λ unlit e f.
          record {
            row_is = (lays unlit e).row_is;
            words_are = lights unlit e;
            cells_are = (lays unlit e).cells_are;
            lit_is = (reports unlit e).lit_is;
          };
    })

-- no column at all
pub none_laid : {panel : ℕ} {row words cells : List ℕ} → ColumnsLaid (λ (i : ℕ). false) panel row words cells row words cells 0
none_laid {panel} {row} {words} {cells} =
    record {
      laid = λ unlit e f.
          record {
            row_is = e ∙ row_congr (length cells) _ _ (λ i l. sym (and-true (unlit i)));
            words_are = f ∙ map_congr (length cells) _ _ (λ i l. sym (and-true (unlit i)));
            cells_are = sym (painted_none _ panel cells (λ i l. and-false (unlit i)));
            lit_is = sym (tally_clear _ (length cells) (λ i l. and-false (unlit i)));
          };
    }

pub span_missed :
    {s : Span} {panel : ℕ} {row words cells : List ℕ} → s.end ≤ s.first → ColumnsLaid (covers s) panel row words cells row words cells 0
span_missed {s} h = columns_congr (λ unlit e i l u. sym (outside s i h)) none_laid
