-- The planes that the rows and the columns of a raster lie in, and what a patch is held to them with.
use Rattle.std.specs.Prelude.{List, ℕ, ◌≤◌, ◌<◌, ℤ, pos}
use Rattle.model.specs.Vector.{Vec, plus, times, cross}
use Rattle.model.specs.Patch.{Proper}
use Rattle.model.specs.Format.{decode, patch_numbered}
use Rattle.geometry.specs.declared.Vector.{Vector}
use Rattle.geometry.specs.declared.Raster.{Raster}
use Rattle.geometry.specs.Machine.{vec_of, Bounded, VectorIs}
use Rattle.format.specs.declared.layout.Layout.{Layout}
use Rattle.reach.specs.declared.Planes.{Planes}
use Rattle.reach.specs.declared.RasterPlanes.{RasterPlanes}

-- Rows, or columns, whose rays go along one vector, and that follow each other by another. The normals are square to the rays: along × origin in the first, and along × next
-- more from each to the next.
pub record PlanesOf (origin along next : Vec) (n : Planes) : Type 0 where
  pub first_is : VectorIs 225200000 (cross along origin) n.first
  pub next_is : VectorIs 225200000 (cross along next) n.next

-- the rows go across and follow each other down, the columns the other way round
pub record RasterPlanesOf (r : Raster) (n : RasterPlanes) : Type 0 where
  pub rows_of : PlanesOf (vec_of r.origin) (vec_of r.across) (vec_of r.down) n.rows
  pub columns_of : PlanesOf (vec_of r.origin) (vec_of r.down) (vec_of r.across) n.columns

-- the normal of row or column k, times a sign
abbrev pub normal_at : Planes → ℤ → ℕ → Vec
normal_at n sign k = times sign (plus (vec_of n.first) (times (pos k) (vec_of n.next)))

-- What a patch is sighted with: the number of a patch of a scene that is proper, an eye in range, and a raster with its planes.
pub record Sighting (bytes : List ℕ) (l : Layout) (k : ℕ) (eye : Vector) (r : Raster) (n : RasterPlanes) : Type 0 where
  pub number : k < l.patches
  pub proper : Proper (patch_numbered (decode bytes) k)
  pub eye_bounded : Bounded 10000 eye
  pub planes_of : RasterPlanesOf r n
  pub width_limit : r.width ≤ 1024
  pub height_limit : r.height ≤ 1024
