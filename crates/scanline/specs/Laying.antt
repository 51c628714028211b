-- What painting over some columns of a row leaves.
use Rattle.std.specs.Prelude.{◌≡◌, Bool, true, false, not, ◌&&◌, List, ℕ, ◌≤◌, ◌<◌, length}
use Rattle.model.specs.Lists.{range, tally}
use Rattle.model.specs.Row.{row_of}
use Rattle.model.specs.Map.{map_row}
use Rattle.segments.specs.Columns.{painted}
use Rattle.spans.specs.declared.Span.{Span}
use Rattle.spans.specs.Span.{covers}

-- the span has every column below the width that the row says is unlit, and none from the width on
pub record UnlitHull (width : ℕ) (row : List ℕ) (r : Span) : Type 0 where
  pub all : (unlit : ℕ → Bool) → row ≡ row_of width unlit → (i : ℕ) → i < width → unlit i ≡ true → covers r i ≡ true
  pub limited : r.end ≤ width

-- the span has no column that the row says is unlit
pub record LitGap (width : ℕ) (row : List ℕ) (r : Span) : Type 0 where
  pub none : (unlit : ℕ → Bool) → row ≡ row_of width unlit → (i : ℕ) → i < width → unlit i ≡ true → covers r i ≡ false

-- A row whose unlit columns were those of the set `unlit`, with a set of columns painted over: those that were unlit are lit now, and show the panel. `lit` is how many
-- columns were newly lit.
pub record ColumnsPainted
    (columns : ℕ → Bool) (panel : ℕ) (unlit : ℕ → Bool) (cells row' words' cells' : List ℕ) (lit : ℕ) : Type 0 where
  pub row_is : row' ≡ row_of (length cells) (λ (i : ℕ). unlit i && not (columns i))
  pub words_are : words' ≡ map_row (length cells) (λ (i : ℕ). unlit i && not (columns i))
  pub cells_are : cells' ≡ painted (λ (i : ℕ). unlit i && columns i) panel cells
  pub lit_is : lit ≡ tally (λ (i : ℕ). unlit i && columns i) (range 0 (length cells))

-- the same, whichever columns the row and the words at entry say were unlit
pub record ColumnsLaid (columns : ℕ → Bool) (panel : ℕ) (row words cells row' words' cells' : List ℕ) (lit : ℕ) : Type 0 where
  pub laid :
      (unlit : ℕ → Bool) → row ≡ row_of (length cells) unlit → words ≡ map_row (length cells) unlit →
      ColumnsPainted columns panel unlit cells row' words' cells' lit
