-- What the survey call leaves in the lent buffers when its answer is 0.
use Rattle.std.specs.Prelude.{List, ℕ}
use Rattle.model.specs.Patch.{Patch}
use Rattle.model.specs.Format.{patches_in}
use Rattle.model.specs.Picture.{picture, cell_panel, counts, unlit_lists, lit_map, next_counter}
use Rattle.model.specs.Booking.{patch_cells}
use Rattle.model.specs.Station.{eye_of}
use Rattle.model.specs.Call.{Call, call_line}

-- the scene's patches, in the order of its patch records
abbrev pub call_patches : Call → List Patch
call_patches c = patches_in c.scene

unfoldable pub call_picture : Call → List ℕ
call_picture c = picture (eye_of c.station) c.camera.tile.width c.camera.tile.height (call_line c) (call_patches c)

unfoldable pub call_counts : Call → List ℕ
call_counts c = counts (call_picture c)

unfoldable pub call_patch_cells : Call → List ℕ
call_patch_cells c =
    patch_cells (eye_of c.station) c.camera.tile.width c.camera.tile.height (call_line c) (call_patches c)

-- Document 02, F-9: "Rows, offsets and map bits count from the tile's top left cell.": row j of the lists and of the map is the tile's row j, column i its column i.
unfoldable pub call_unlit : Call → List ℕ
call_unlit c =
    unlit_lists c.camera.tile.width c.camera.tile.height (cell_panel (eye_of c.station) (call_line c) (call_patches c))

unfoldable pub call_lit : Call → List ℕ
call_lit c =
    lit_map c.camera.tile.width c.camera.tile.height (cell_panel (eye_of c.station) (call_line c) (call_patches c))

unfoldable pub call_counter : Call → ℕ
call_counter c = next_counter c.camera c.counter
