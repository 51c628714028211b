-- A machine camera as the model's, and how large its numbers are at most.
use Rattle.std.specs.Prelude.{pos, ◌≤◌, ◌<◌}
use Rattle.integer.specs.Magnitude.{Within}
use Rattle.model.specs.View.{View, Axes as ModelAxes, Tile as ModelTile, Camera as ModelCamera}
use Rattle.geometry.specs.declared.Vector.{Vector}
use Rattle.geometry.specs.Machine.{vec_of, Bounded}
use Rattle.camera.specs.declared.Axes.{Axes}
use Rattle.camera.specs.declared.Tile.{Tile}
use Rattle.camera.specs.declared.Camera.{Camera}

abbrev pub axes_of : Axes → ModelAxes
axes_of a = record { right = vec_of a.right; forward = vec_of a.forward; up = vec_of a.up }

abbrev pub tile_of : Tile → ModelTile
tile_of t = record { left = t.left; top = t.top; width = t.width; height = t.height }

abbrev pub camera_of : Camera → ModelCamera
camera_of c =
    record { axes = axes_of c.axes; window = record { width = c.width; height = c.height; lens = c.lens }; tile = tile_of c.tile }

-- a machine camera at a machine point
abbrev pub view_of : Vector → Camera → View
view_of e c = record { eye = vec_of e; camera = camera_of c }

-- its axes' and its window's numbers are no larger than questions 10 and 14 let pass, and the tile's first cell is one of the window's
pub record CameraBounded (c : Camera) : Type 0 where
  pub right_bounded : Bounded 100 c.axes.right
  pub forward_bounded : Bounded 100 c.axes.forward
  pub up_bounded : Bounded 100 c.axes.up
  pub wide : c.width ≤ 1024
  pub high : c.height ≤ 512
  pub first_column : c.tile.left < c.width
  pub first_row : c.tile.top < c.height
  pub lens_within : Within 4096 (pos c.lens)
