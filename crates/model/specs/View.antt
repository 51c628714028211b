-- Which way one looks, and from where: a camera with the tile of its window that is drawn, a camera at an eye, and the directions of a picture's cells.
use Rattle.std.specs.Prelude.{Bool, ◌&&◌, ℕ, ◌+◌, ◌*◌, ◌-◌, leb, ltb, pos, ◌-ℤ◌}
use Rattle.model.specs.Vector.{Vec, vec, plus, times}

-- "A window is width, height and lens."
pub record Window : Type 0 where
  pub width : ℕ
  pub height : ℕ
  pub lens : ℕ

-- Document 02, F-1: "A view takes three vectors, right, forward and up": where the camera's own axes point.
pub record Axes : Type 0 where
  pub right : Vec
  pub forward : Vec
  pub up : Vec

-- Document 02, F-1: "The old view is (1,0,0), (0,1,0), (0,0,1)": the camera stands level and looks along the bore.
abbrev pub level_axes : Axes
level_axes =
    record {
      right = vec (pos 1) (pos 0) (pos 0);
      forward = vec (pos 0) (pos 1) (pos 0);
      up = vec (pos 0) (pos 0) (pos 1);
    }

-- Document 02, F-9: "The picture is made in tiles": a part of a window, by the place of its top left cell in the window and by its size.
pub record Tile : Type 0 where
  pub left : ℕ
  pub top : ℕ
  pub width : ℕ
  pub height : ℕ

-- Cell (x, y) of the window lies in the tile.
abbrev pub holds : Tile → ℕ → ℕ → Bool
holds t x y = (leb t.left x && ltb x (t.left + t.width)) && (leb t.top y && ltb y (t.top + t.height))

-- the whole window as one tile
abbrev pub whole_tile : Window → Tile
whole_tile w = record { left = 0; top = 0; width = w.width; height = w.height }

-- how the camera is turned, its window, and the tile of the window that is drawn
pub record Camera : Type 0 where
  pub axes : Axes
  pub window : Window
  pub tile : Tile

-- Cell (i, j) of the whole window: "Column i runs from 0 at the left, row j from 0 at the top." The tile has no part in it.
-- Document 02, F-1: "A cell's direction is (2i + 1 − width) times right plus lens times forward plus (height − 1 − 2j) times up."
abbrev pub direction : Camera → ℕ → ℕ → Vec
direction c i j =
    plus
    (plus (times (pos (2 * i + 1) -ℤ pos c.window.width) c.axes.right)
    (times (pos c.window.lens) c.axes.forward))
    (times (pos c.window.height -ℤ pos (1 + 2 * j)) c.axes.up)

-- The cell of the whole window that the tile has as its cell (i, j). Document 02, F-9: "A tile's cells are those of the whole window's sight lines at that place. Rows, offsets and map bits count from the tile's top
-- left cell."
abbrev pub window_column : Camera → ℕ → ℕ
window_column c i = c.tile.left + i

abbrev pub window_row : Camera → ℕ → ℕ
window_row c j = c.tile.top + j

-- the tile holds "the window's last cell": that of its last column in its last row
abbrev pub holds_last : Camera → Bool
holds_last c = holds c.tile (c.window.width - 1) (c.window.height - 1)

-- "The cell's direction is (2i + 1 − width, lens, height − 1 − 2j), from the eye onward.": what `direction` comes to in the old view (`level_direction_lem` in proofs/Views).
abbrev pub level_direction : Window → ℕ → ℕ → Vec
level_direction w i j = vec (pos (2 * i + 1) -ℤ pos w.width) (pos w.lens) (pos w.height -ℤ pos (1 + 2 * j))

-- a camera at an eye: what every statement about a picture speaks of
pub record View : Type 0 where
  pub eye : Vec
  pub camera : Camera

-- the columns and the rows of a view's window, and those of its picture, which is the tile's
abbrev pub window_width : View → ℕ
window_width v = v.camera.window.width

abbrev pub window_height : View → ℕ
window_height v = v.camera.window.height

abbrev pub picture_width : View → ℕ
picture_width v = v.camera.tile.width

abbrev pub picture_height : View → ℕ
picture_height v = v.camera.tile.height
