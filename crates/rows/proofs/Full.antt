-- What laying reports, and the span that is empty.
use mathlib.Core.Path.{◌≡◌, sym, ◌∙◌}
use mathlib.Core.Bool.{Bool, and-true, and-false}
use mathlib.Core.List.{List}
use Prim.Native.Nat.{ℕ, ◌≤◌, ◌<◌}
use lib.Dec.{eqb}
use lib.ListN.{length, get_or}
use borrow.Author.Tests.{le-leb, lt-leb}
use Rattle.model.specs.Row.{segments, row_of, after_span}
use Rattle.segments.specs.Looks.{looked_at, looks}
use Rattle.laying.specs.Laid.{Lays}
use Rattle.rows.specs.Span.{Reports}
use Rattle.segments.proofs.Rows.{row_congr}
use Rattle.segments.proofs.Cut.{span_empty}
use Rattle.segments.proofs.Full.{first_length}
use Rattle.segments.proofs.Painting.{painted_none}
use Rattle.segments.proofs.Tallies.{tally_clear}
use Rattle.stepping.proofs.Stepping.{spanned}

pub reports :
    {unlit : ℕ → Bool} {first last panel : ℕ} {cells row' cells' : List ℕ} → length cells ≤ 256 →
    Lays unlit first last panel cells row' cells' → {lit looked : ℕ} → lit ≡ spanned first last (length cells) unlit →
    looked ≡ looks (length cells) unlit (record { first = first; last = last }) →
    Reports unlit first last (length cells) (eqb (get_or row' 1 0) 0) lit looked
reports {unlit} {first} {last} {panel} {cells} fits l e k =
    record {
      full_is = rw l.row_is (first_length (length cells) fits (after_span unlit first last));
      lit_is = e;
      looked_is = k;
    }

-- a span that is laid looks at what its sweep looked at
pub looks_laid :
    (width : ℕ) (unlit : ℕ → Bool) {first last looked : ℕ} → first ≤ last → looked ≡ looked_at last (segments width unlit) →
    looked ≡ looks width unlit (record { first = first; last = last })
unfolding looks
looks_laid width unlit {first} {last} h e = rw (le-leb first last h) e

-- an empty span has no column, so it changes nothing
module _ (first last : ℕ) (h : last < first) where
  pub lays_nothing :
      {row cells : List ℕ} (panel : ℕ) (unlit : ℕ → Bool) → row ≡ row_of (length cells) unlit →
      Lays unlit first last panel cells row cells
  lays_nothing {row} {cells} panel unlit e =
      record {
        row_is =
            e
            ∙ row_congr (length cells) unlit (after_span unlit first last)
            (λ i l. sym (rw (span_empty first last h i) (and-true (unlit i))));
        cells_are = sym (painted_none _ panel cells (λ i l. rw (span_empty first last h i) (and-false (unlit i))));
      }

  pub lights_nothing : (width : ℕ) (unlit : ℕ → Bool) → 0 ≡ spanned first last width unlit
  lights_nothing width unlit = sym (tally_clear _ width (λ i l. rw (span_empty first last h i) (and-false (unlit i))))

  pub looks_at_nothing : (width : ℕ) (unlit : ℕ → Bool) → 0 ≡ looks width unlit (record { first = first; last = last })
  unfolding looks
  looks_at_nothing width unlit = rw (lt-leb first last h)
