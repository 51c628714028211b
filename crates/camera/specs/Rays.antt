-- The rays of a camera's picture as a raster.
use Rattle.std.specs.Prelude.{◌≡◌, ℕ, ◌+◌, ◌*◌, ℤ, pos, negsuc, ◌-ℤ◌}
use Rattle.model.specs.Vector.{times}
use Rattle.model.specs.View.{Camera, direction, window_column, window_row}
use Rattle.geometry.specs.declared.Raster.{Raster}
use Rattle.geometry.specs.Machine.{vec_of}
use Rattle.geometry.specs.Raster.{ray_at, RasterBounded}

-- how far cell n of `all` cells lies from their middle, in half cells
abbrev pub from_middle : ℕ → ℕ → ℤ
from_middle n all = pos (2 * n + 1) -ℤ pos all

-- a raster with the rays, columns and rows of a camera's tile: the ray of each cell, the way to the next column and that to the next row
pub record RaysOf (c : Camera) (r : Raster) : Type 0 where
  pub rays : (i j : ℕ) → ray_at r i j ≡ direction c (window_column c i) (window_row c j)
  pub to_next_column_lem : vec_of r.across ≡ times (pos 2) c.axes.right
  pub to_next_row_lem : vec_of r.down ≡ times (negsuc 1) c.axes.up
  pub bounded : RasterBounded r
  pub columns : r.width ≡ c.tile.width
  pub rows : r.height ≡ c.tile.height
