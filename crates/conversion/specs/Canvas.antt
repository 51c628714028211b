-- All rows of a picture under work: what painting over some columns of them asks and leaves.
use Rattle.std.specs.Prelude.{◌≡◌, Bool, not, ◌&&◌, List, ℕ, ◌*◌, ◌≤◌, ◌<◌, length, get_or, take, drop}
use Rattle.model.specs.Row.{row_of}
use Rattle.model.specs.Map.{map_row}
use Rattle.model.specs.Booking.{cells_where}
use Rattle.segments.specs.Columns.{painted}
use Rattle.geometry.specs.declared.EdgeFunction.{EdgeFunction}
use Rattle.spans.specs.declared.Span.{Span}
use Rattle.spans.specs.Span.{covers}
use Rattle.spans.specs.Row.{FunctionRun, all_above}
use Rattle.rows.specs.declared.RowUnderWork.{RowUnderWork}
use Rattle.rows.specs.Span.{no_row}

-- row j of a picture
abbrev pub row_part : ℕ → ℕ → List ℕ → List ℕ
row_part width j picture = take width (drop (j * width) picture)

-- the rows and their words of the lit map are those of sets of unlit columns, one set a row
pub record UnlitSets (width height : ℕ) (unlit : ℕ → ℕ → Bool) (rows : List RowUnderWork) : Type 0 where
  pub rows_are : (j : ℕ) → j < height → (get_or rows j no_row).pairs ≡ row_of width (unlit j)
  pub words_are : (j : ℕ) → j < height → (get_or rows j no_row).words ≡ map_row width (unlit j)

-- column i of row j, where the row is one of a span and each function is above 0 there
abbrev pub in_rows : Span → List EdgeFunction → ℕ → ℕ → Bool
in_rows rows fs j i = covers rows j && all_above fs i j

-- what painting in the rows of a span asks: they are rows of the picture, and under work
pub record RowsAsked
    (functions : List EdgeFunction) (reach : Span) (width : ℕ) (rows : List RowUnderWork) (picture : List ℕ) : Type 0 where
  pub run : FunctionRun functions
  pub ordered : reach.first ≤ reach.end
  pub low : reach.end ≤ 128
  pub narrow : width ≤ 256
  pub cells : reach.end * width ≤ length picture
  pub unlit : ℕ → ℕ → Bool
  pub under_work : UnlitSets width reach.end unlit rows

-- In each row j, whose unlit columns were those of `unlit j`, those of `columns j` are painted over: those that were unlit are lit now, and show the panel. `lit` is how
-- many cells were newly lit.
pub record RowsPaintedOver
    (columns : ℕ → ℕ → Bool) (panel width height : ℕ) (unlit : ℕ → ℕ → Bool) (picture : List ℕ) (rows' : List RowUnderWork) (picture' : List ℕ) (lit : ℕ) : Type 0 where
  pub sets : UnlitSets width height (λ (j i : ℕ). unlit j i && not (columns j i)) rows'
  pub cells_are : (j : ℕ) → j < height → row_part width j picture' ≡ painted (λ (i : ℕ). unlit j i && columns j i) panel (row_part width j picture)
  pub lit_is : lit ≡ cells_where width height (λ (i j : ℕ). unlit j i && columns j i)
