-- What a row shows after a walk is painted in it.
use Rattle.std.specs.Prelude.{◌≡◌, Bool, not, List, map, ℕ, ◌≤◌, length, take}
use Rattle.model.specs.Lists.{any, range}
use Rattle.model.specs.Vector.{Vec}
use Rattle.model.specs.Patch.{Patch}
use Rattle.model.specs.Ray.{met, panel_of, first_met}
use Rattle.model.specs.Row.{row_of}
use Rattle.model.specs.Map.{map_row}

-- the panel that column i shows after some patches are painted: the first of them that is met, or 0
unfoldable pub shown_after : Vec → (ℕ → Vec) → List Patch → ℕ → ℕ
shown_after eye ray painted i = panel_of (first_met eye (ray i) painted)

-- column i is unlit after some patches are painted: none of them is met there
unfoldable pub unlit_after : Vec → (ℕ → Vec) → List Patch → ℕ → Bool
unlit_after eye ray painted i = not (any (met eye (ray i)) painted)

-- a row's cells, its unlit segments and its words of the lit map after a walk is painted
pub record RowPainted (eye : Vec) (ray : ℕ → Vec) (walk : List Patch) (width : ℕ) (cells row words : List ℕ) : Type 0 where
  pub cells_are : cells ≡ map (shown_after eye ray walk) (range 0 width)
  pub row_is : row ≡ row_of width (unlit_after eye ray walk)
  pub words_are : words ≡ map_row width (unlit_after eye ray walk)

-- the first k patches of a walk are painted in the row
pub record PaintedUpTo
    (eye : Vec) (ray : ℕ → Vec) (patch : ℕ → Patch) (order : List ℕ) (width : ℕ) (cells row words : List ℕ) (k : ℕ) : Type 0 where
  pub bound : k ≤ length order
  pub long : length cells ≡ width
  pub so_far : RowPainted eye ray (map patch (take k order)) width cells row words
