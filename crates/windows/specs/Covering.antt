-- That a window can be covered. Document 02, F-9: "The portal display shows up to 1,024 by 512 cells. The picture is made in tiles of at most 256 by 128".
use mathlib.Core.List.{List, map, flatten}
use Rattle.std.specs.Prelude.{ℕ, ◌+◌, ◌*◌, ◌-◌, ◌/◌, min, T}
use Rattle.model.specs.Lists.{every, range}
use Rattle.model.specs.View.{Window, Tile}
use Rattle.model.specs.Questions.{tile_in_window}
use Rattle.windows.specs.Windows.{CoverOnce}

-- Tiles that question 10 lets pass and that cover a window once. (What it asks of the eye and of the window is not asked here.)
pub record Coverable (w : Window) : Type 0 where
  pub tiles : List Tile
  pub inside : T (every (tile_in_window w) tiles)
  pub once : CoverOnce w tiles

-- how many parts of this size n cells in a line make, the last of them perhaps shorter
abbrev pub part_count : ℕ → ℕ → ℕ
part_count size n = (n + (size - 1)) / size

-- the cells of part i: as many as fit, and in the last part what is left
abbrev pub part_size : ℕ → ℕ → ℕ → ℕ
part_size size n i = min size (n - i * size)

-- the tile in column i and row j of the grid
abbrev pub grid_tile : Window → ℕ → ℕ → Tile
grid_tile w i j =
    record { left = i * 256; top = j * 128; width = part_size 256 w.width i; height = part_size 128 w.height j }

-- The grid: tiles of 256 by 128 from the window's top left cell on, row after row, those of the last column as narrow and those of the last row as low as what is left.
unfoldable pub grid_tiles : Window → List Tile
grid_tiles w =
    flatten
    (map (λ (j : ℕ). map (λ (i : ℕ). grid_tile w i j) (range 0 (part_count 256 w.width)))
    (range 0 (part_count 128 w.height)))
