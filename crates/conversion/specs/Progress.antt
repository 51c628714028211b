-- A walk that can be painted, and how far it is.
use Rattle.std.specs.Prelude.{◌≡◌, List, ℕ, ◌*◌, ◌≤◌, ◌<◌, T, length, get_or, take}
use Rattle.model.specs.Format.{decode, patch_numbered}
use Rattle.model.specs.Questions.{patches_proper}
use Rattle.geometry.specs.Machine.{vec_of}
use Rattle.geometry.specs.Raster.{line_at}
use Rattle.format.specs.declared.layout.Layout.{Layout}
use Rattle.edges.specs.declared.Sight.{Sight}
use Rattle.edges.specs.Edges.{SightBounded}
use Rattle.reach.specs.declared.RasterPlanes.{RasterPlanes}
use Rattle.reach.specs.Planes.{RasterPlanesOf}
use Rattle.rows.specs.declared.RowUnderWork.{RowUnderWork}
use Rattle.rows.specs.Span.{no_row}
use Rattle.scanline.specs.Shown.{PaintedUpTo}
use Rattle.conversion.specs.Canvas.{row_part}
use Rattle.conversion.specs.Booked.{Booked}

-- a scene and a walk that can be painted as it is seen
pub record Paintable (bytes : List ℕ) (l : Layout) (s : Sight) (order : List ℕ) : Type 0 where
  pub proper : T (patches_proper (decode bytes))
  pub sight : SightBounded s
  pub narrow : s.raster.width ≤ 256
  pub low : s.raster.height ≤ 128
  pub numbers : (k : ℕ) → k < length order → get_or order k 0 < l.patches
  pub few : length order ≤ 1024

-- The first k patches of a walk are painted in each row, and their cells booked. All rows are under work.
pub record WalkPainted
    (bytes : List ℕ) (s : Sight) (order : List ℕ) (rows : List RowUnderWork) (picture booked : List ℕ) (k : ℕ) : Type 0 where
  pub each :
      (j : ℕ) → j < s.raster.height →
      PaintedUpTo (vec_of s.eye) (λ (i : ℕ). line_at s.raster i j) (patch_numbered (decode bytes)) order s.raster.width
      (row_part s.raster.width j picture) (get_or rows j no_row).pairs (get_or rows j no_row).words k
  pub booked_are :
      Booked (vec_of s.eye) (line_at s.raster) (patch_numbered (decode bytes)) (take k order) s.raster.width booked s.raster.height

-- what painting patch k of a walk asks
pub record PatchAsked
    (bytes : List ℕ) (l : Layout) (order : List ℕ) (k : ℕ) (s : Sight) (planes : RasterPlanes) (rows : List RowUnderWork) (picture booked : List ℕ) : Type 0 where
  pub paintable : Paintable bytes l s order
  pub planes_of : RasterPlanesOf s.raster planes
  pub next : k < length order
  pub cells : length picture ≡ s.raster.width * s.raster.height
  pub entries : length booked ≡ l.patches
  pub so_far : WalkPainted bytes s order rows picture booked k
