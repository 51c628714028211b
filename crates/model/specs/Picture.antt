-- The picture, the counts, the unlit lists, the lit map and the counter that an accepted call leaves, from the closest panels alone: for a width, a height and any direction of each cell.
use Rattle.std.specs.Prelude.{cond, ℕ, ◌+◌, eqb}
use mathlib.Core.List.{List, map, flatten}
use Rattle.model.specs.Lists.{range, occurrences}
use Rattle.model.specs.Vector.{Vec}
use Rattle.model.specs.Patch.{Patch}
use Rattle.model.specs.Ray.{closest}
use Rattle.model.specs.Format.{highest_panel}
use Rattle.model.specs.View.{Camera, holds_last}
use Rattle.model.specs.Row.{row_of}
use Rattle.model.specs.Map.{map_row}

-- all cells' values, row after row from the top, each from the left: cell (i, j) stands at j × width + i
unfoldable pub cells : ℕ → ℕ → (ℕ → ℕ → ℕ) → List ℕ
cells width height value =
    flatten (map (λ (j : ℕ). map (λ (i : ℕ). value i j) (range 0 width)) (range 0 height))

-- the closest panel of each cell
abbrev pub cell_panel : Vec → (ℕ → ℕ → Vec) → List Patch → ℕ → ℕ → ℕ
cell_panel eye direction ps i j = closest eye (direction i j) ps

unfoldable pub picture : Vec → ℕ → ℕ → (ℕ → ℕ → Vec) → List Patch → List ℕ
picture eye width height direction ps = cells width height (cell_panel eye direction ps)

-- one count for each panel number and, in entry 0, for "nothing"
abbrev pub count_entries : ℕ
count_entries = highest_panel + 1

-- demand 2: "each count is the number of such cells"
unfoldable pub counts : List ℕ → List ℕ
counts cellValues = map (λ (n : ℕ). occurrences n cellValues) (range 0 count_entries)

-- the unlit lists: for each row the row of its cells that hold 0
unfoldable pub unlit_lists : ℕ → ℕ → (ℕ → ℕ → ℕ) → List ℕ
unlit_lists width height value =
    flatten (map (λ (j : ℕ). row_of width (λ (i : ℕ). eqb (value i j) 0)) (range 0 height))

-- the lit map: for each row the words of its cells that do not hold 0
unfoldable pub lit_map : ℕ → ℕ → (ℕ → ℕ → ℕ) → List ℕ
lit_map width height value =
    flatten (map (λ (j : ℕ). map_row width (λ (i : ℕ). eqb (value i j) 0)) (range 0 height))

-- The station counter after an accepted call. Document 02, F-9: it "rises with the tile that holds the window's last cell, and with no other", which takes the place of document 01's "It rises by one with each accepted
-- picture."
abbrev pub next_counter : Camera → ℕ → ℕ
next_counter camera counter = cond (holds_last camera) (counter + 1) counter
