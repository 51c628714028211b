-- What an accepted call on a tile of a window leaves, in the window's own cells.
use mathlib.Core.Path.{◌≡◌, ap, ap₂, subst, ◌∙◌}
use mathlib.Core.Bool.{cond, ◌&&◌}
use mathlib.Core.Logic.{◌↔◌}
use mathlib.Core.List.{List, [], ◌∷◌}
use Prim.Native.Nat.{ℕ, ◌+◌, ◌-◌, ◌≤◌, ◌<◌}
use native.Mathlib.Omega.{arith}
use lib.Dec.{T, eqb, leb, ltb, leb→le, ltb→lt}
use lib.ListN.{length, get_or}
use Rattle.model.specs.Lists.{occurrences}
use Rattle.model.specs.Vector.{Vec}
use Rattle.model.specs.Patch.{Patch}
use Rattle.model.specs.Ray.{closest}
use Rattle.model.specs.View.{Tile, View, holds, window_width, window_height}
use Rattle.model.specs.Beside.{ShownBeside, HasBeside, cell_line}
use Rattle.model.specs.Lent.{Lent}
use Rattle.model.specs.Format.{patches_in}
use Rattle.model.specs.Picture.{cells, cell_panel, picture, count_entries}
use Rattle.model.specs.Booking.{has_cell, cells_where}
use Rattle.model.specs.Questions.{view_in_range}
use Rattle.model.specs.Survey.{call_picture, call_counter}
use Rattle.model.proofs.Tests.{both, true_of}
use Rattle.model.proofs.Answers.{AcceptedCall}
use Rattle.model.proofs.Alike.{Sound}
use Rattle.model.proofs.Cells.{cells_at}
use Rattle.model.proofs.PatchTables.{table_sound}
use Rattle.model.proofs.PanelSums.{occurrences_where}
use Rattle.model.proofs.BesideCells.{beside_right, beside_only, beside_has}
use Rattle.model.proofs.CallLimits.{TileInside, view_bounded}
use Rattle.contract.specs.Contract.{call_on}
use Rattle.demands.specs.Demands.{ClosestPanels}
use Rattle.demands.proofs.Demands.{accepted_leaves, accepted, closest_panels_lem}
use Rattle.windows.specs.Windows.{TileCall, on_tile, AcceptedTile, cell_from, window_has}

-- what the line of cell (x, y) of the window shows
abbrev pub window_shows : List ℕ → View → ℕ → ℕ → ℕ
window_shows bytes v = cell_panel v.eye (cell_line v.camera) (patches_in bytes)

module _ {bytes : List ℕ} {v : View} {t : TileCall} (a : AcceptedTile bytes v t) where
  -- the view with the call's tile, from any eye and from its own
  abbrev from : Vec → View
  from e = record { eye = e; camera = on_tile v.camera t.tile }

  abbrev pub tile_view : View
  tile_view = from v.eye

  -- the call's questions all said yes
  pub call : AcceptedCall (call_on bytes t.station (on_tile v.camera t.tile) t.before)
  call = accepted a.surveyed a.done

  -- its view is in range, with the view's eye for the station's
  pub view_in_range_lem : T (view_in_range tile_view)
  view_in_range_lem = subst (λ (e : Vec). T (view_in_range (from e))) a.one_eye call.view

  -- its tile is wholly inside the window
  pub tile_inside : TileInside v.camera.window t.tile
  tile_inside = (view_bounded tile_view view_in_range_lem).inside

  -- its scene's patches are proper and in range
  pub sound : Sound (patches_in bytes)
  sound = table_sound call.scene

  -- ---- what is seen in a cell of the window, by any call on a tile of it

  module _ {ps : List Patch} (s : Sound ps) (x y : ℕ) where
    -- the line names what the lines just beside it show
    pub window_right : ShownBeside v ps x y (closest v.eye (cell_line v.camera x y) ps)
    unfolding cell_line
    window_right = beside_right tile_view view_in_range_lem call.axes s x y

    -- and no other number is what they show
    pub window_only : {n : ℕ} → ShownBeside v ps x y n → n ≡ closest v.eye (cell_line v.camera x y) ps
    unfolding cell_line
    window_only h = beside_only tile_view view_in_range_lem call.axes s x y h

    -- the patch that has the cell by the line has it by the lines just beside
    pub window_has_lem : (k : ℕ) → T (has_cell v.eye (cell_line v.camera x y) ps k) ↔ HasBeside v ps x y k
    unfolding cell_line
    window_has_lem k = beside_has tile_view view_in_range_lem call.axes s x y k

  -- ---- what the call left

  -- demand 2 of it, with the view's eye
  panels : ClosestPanels bytes tile_view t.after
  panels =
      subst (λ (e : Vec). ClosestPanels bytes (from e) t.after) a.one_eye (closest_panels_lem a.surveyed a.done)

  -- the tile's picture: the window's cells from the tile's top left cell on
  picture_left :
      t.after.picture
      ≡ cells t.tile.width t.tile.height (λ (i j : ℕ). window_shows bytes v (t.tile.left + i) (t.tile.top + j))
  unfolding call_picture picture cell_line
  picture_left =
      ap (λ (l : Lent). l.picture) (accepted_leaves a.surveyed a.done)
      ∙ ap
      (λ (e : Vec).
      cells t.tile.width t.tile.height
      (λ (i j : ℕ). closest e (cell_line v.camera (t.tile.left + i) (t.tile.top + j)) (patches_in bytes)))
      a.one_eye

  -- a cell that the tile holds, read from the tile's picture
  pub tile_at : (x y : ℕ) → T (holds t.tile x y) → cell_from (t ∷ []) x y ≡ window_shows bytes v x y
  unfolding cell_from
  tile_at x y h =
      let k : Tile = t.tile in
      let b = (both (leb k.left x && ltb x (k.left + k.width)) (leb k.top y && ltb y (k.top + k.height))).0 h in
      let c = (both (leb k.left x) (ltb x (k.left + k.width))).0 b.0 in
      let r = (both (leb k.top y) (ltb y (k.top + k.height))).0 b.1 in
      let left : k.left ≤ x = leb→le k.left x c.0 in
      let right : x < k.left + k.width = ltb→lt x (k.left + k.width) c.1 in
      let top : k.top ≤ y = leb→le k.top y r.0 in
      let bottom : y < k.top + k.height = ltb→lt y (k.top + k.height) r.1 in
      let column : k.left + (x - k.left) ≡ x = omega arith in
      let row : k.top + (y - k.top) ≡ y = omega arith in
      rw (true_of {b = holds k x y} h, picture_left)
      (cells_at k.width k.height (λ (i j : ℕ). window_shows bytes v (k.left + i) (k.top + j)) (x - k.left) (y - k.top)
      (omega arith) (omega arith)
      ∙ ap₂ (window_shows bytes v) column row)

  -- its count of a panel: the tile's cells that show it
  pub count_left :
      (n : ℕ) → n < count_entries →
      get_or t.after.counts n 0
      ≡ cells_where t.tile.width t.tile.height
      (λ (i j : ℕ). eqb (window_shows bytes v (t.tile.left + i) (t.tile.top + j)) n)
  count_left n h =
      panels.counted n h
      ∙ ap (occurrences n) picture_left
      ∙ occurrences_where t.tile.width t.tile.height _ n

  -- its count of a patch: the tile's cells that it has
  pub patch_count_left :
      (k : ℕ) → k < length (patches_in bytes) →
      get_or t.after.patch_counts k 0
      ≡ cells_where t.tile.width t.tile.height
      (λ (i j : ℕ). window_has bytes v (t.tile.left + i) (t.tile.top + j) k)
  unfolding cell_line
  patch_count_left k h = panels.booked k h

  -- the counter: one more where the tile holds the window's last cell
  pub counter_left :
      t.after.counter
      ≡ cond (holds t.tile (window_width v - 1) (window_height v - 1)) (t.before.counter + 1) t.before.counter
  unfolding call_counter
  counter_left = ap (λ (l : Lent). l.counter) (accepted_leaves a.surveyed a.done)
