-- What painting an accepted scene asks, and what it leaves in the lent buffers.
use Rattle.std.specs.Prelude.{◌≡◌, List, ℕ, length}
use Rattle.model.specs.View.{View, picture_width, picture_height}
use Rattle.model.specs.Beside.{tile_line}
use Rattle.model.specs.Format.{decode, patch_table}
use Rattle.model.specs.Picture.{picture, cell_panel, counts, count_entries, unlit_lists, lit_map}
use Rattle.model.specs.Booking.{patch_cells}
use Rattle.model.specs.Accepted.{AcceptedScene}
use Rattle.model.specs.Lent.{Lent}
use Rattle.geometry.specs.declared.Vector.{Vector}
use Rattle.geometry.specs.Machine.{Bounded}
use Rattle.camera.specs.declared.Camera.{Camera}
use Rattle.camera.specs.Machine.{CameraBounded}
use Rattle.painting.specs.Picture.{Framed}

-- a scene that passed the questions, an eye and a camera in range, buffers of the tile's size, a table with one entry a patch and one with an entry a panel number
pub record PaintingAsked (bytes : List ℕ) (eye : Vector) (camera : Camera) (lent : Lent) : Type 0 where
  pub accepted : AcceptedScene bytes
  pub near : Bounded 10000 eye
  pub aimed : CameraBounded camera
  pub framed : Framed camera.tile.width camera.tile.height lent.picture lent.unlit lent.lit
  pub entries : length lent.patch_counts ≡ length (decode bytes).patches
  pub counted : length lent.counts ≡ count_entries

-- the picture, the unlit lists and the lit map of a view, from the closest panels, and the cells of each patch
pub record Painted (bytes : List ℕ) (v : View) (cells unlit lit booked : List ℕ) : Type 0 where
  pub cells_are :
      cells ≡ picture v.eye (picture_width v) (picture_height v) (tile_line v.camera) (patch_table (decode bytes))
  pub unlit_are :
      unlit ≡ unlit_lists (picture_width v) (picture_height v) (cell_panel v.eye (tile_line v.camera) (patch_table (decode bytes)))
  pub lit_are :
      lit ≡ lit_map (picture_width v) (picture_height v) (cell_panel v.eye (tile_line v.camera) (patch_table (decode bytes)))
  pub booked_are :
      booked ≡ patch_cells v.eye (picture_width v) (picture_height v) (tile_line v.camera) (patch_table (decode bytes))

-- and the counts of the picture's cells
pub record Rendered (bytes : List ℕ) (v : View) (lent : Lent) : Type 0 where
  pub painted : Painted bytes v lent.picture lent.unlit lent.lit lent.patch_counts
  pub counts_are : lent.counts ≡ counts (picture v.eye (picture_width v) (picture_height v) (tile_line v.camera) (patch_table (decode bytes)))
