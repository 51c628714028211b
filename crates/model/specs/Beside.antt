-- How a cell is read: by the lines just beside its sight line (document 02, F-3).
use Rattle.std.specs.Prelude.{List, ℕ, ◌*◌, ◌<◌, pos}
use Rattle.model.specs.Vector.{Vec, minus, plus, times}
use Rattle.model.specs.Patch.{Patch}
use Rattle.model.specs.Ray.{IsClosest}
use Rattle.model.specs.Booking.{HasCell}
use Rattle.model.specs.View.{Axes, Camera, View, direction, window_column, window_row}

-- "any small enough step above 0": P holds of every step a / b above 0 and below 1 / bound (of every step above 0, where the bound is 0)
pub record AnySmallStep (P : ℕ → ℕ → Type 0) : Type 0 where
  pub bound : ℕ
  pub holds : (a b : ℕ) → 0 < a → a * bound < b → P a b

-- The direction with right times a / b added and up times c / e taken away. "A step is a fraction of two whole numbers, so such a direction can be multiplied
-- out to whole numbers": here by b × e.
abbrev pub stepped : Axes → Vec → ℕ → ℕ → ℕ → ℕ → Vec
stepped axes d a b c e =
    minus (plus (times (pos (b * e)) d) (times (pos (a * e)) axes.right)) (times (pos (c * b)) axes.up)

-- P holds of the lines just beside the sight line of cell (x, y) of the whole window: of "the line from the eye whose direction has right times any small enough step above 0 added, and
-- up times any step above 0 small enough beside that taken away". What is small enough for the second step may depend on the first.
abbrev pub JustBeside : Camera → ℕ → ℕ → (Vec → Type 0) → Type 0
JustBeside camera x y P =
    AnySmallStep
    (λ (a b : ℕ). AnySmallStep (λ (c e : ℕ). P (stepped camera.axes (direction camera x y) a b c e)))

-- "A cell holds the panel met first, strictly inside, by the line": number n, of a panel or 0 where no patch is met, is the closest along the lines just beside.
-- ""Met" and "closest" are read so from here on."
abbrev pub ShownBeside : View → List Patch → ℕ → ℕ → ℕ → Type 0
ShownBeside v ps x y n = JustBeside v.camera x y (λ (line : Vec). IsClosest v.eye line ps n)

-- the patch, by its number k, that has the cell (F-2), read so too
abbrev pub HasBeside : View → List Patch → ℕ → ℕ → ℕ → Type 0
HasBeside v ps x y k = JustBeside v.camera x y (λ (line : Vec). HasCell v.eye line ps k)

-- 10²⁶
abbrev pub fine : ℕ
fine = 100000000000000000000000000

-- The one line by which an equation names what cell (x, y) of the whole window shows: with the steps 2 / 10²⁶ for right and 2 / 10⁵² for up. (2 times right leads to the next column, 2 times up to
-- the row above.) That these are small enough in every accepted scene and view, and that all lines just beside show one panel, is proved (`beside_right`, `beside_only`) and
-- not part of the rule.
unfoldable pub cell_line : Camera → ℕ → ℕ → Vec
cell_line camera x y = stepped camera.axes (direction camera x y) 2 fine 2 (fine * fine)

-- the line of the tile's cell (i, j): "those of the whole window's sight lines at that place" (document 02, F-9)
abbrev pub tile_line : Camera → ℕ → ℕ → Vec
tile_line camera i j = cell_line camera (window_column camera i) (window_row camera j)
