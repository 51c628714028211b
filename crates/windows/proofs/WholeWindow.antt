-- "All tiles that cover the window once, each of them accepted, give the whole picture, and their counts add to its counts" (document 02, F-9).
use mathlib.Core.Path.{◌≡◌, refl, sym, ap, ◌∙◌}
use mathlib.Core.Bool.{Bool, true, false, cond}
use mathlib.Core.List.{List, [], ◌∷◌, map, sum, Memᴰ}
use Prim.Native.Nat.{ℕ, ◌+◌, ◌*◌, ◌-◌, ◌≤◌, ◌<◌}
use native.Mathlib.Nat.{zero-add}
use native.Mathlib.Omega.{arith}
use lib.Dec.{T, eqb}
use lib.ListN.{length}
use Rattle.model.specs.Lists.{range, add_if, tally, occurrences}
use Rattle.model.specs.Patch.{numbered}
use Rattle.model.specs.View.{Tile, View, holds, window_width, window_height}
use Rattle.model.specs.Beside.{cell_line}
use Rattle.model.specs.Format.{decode, patches_in}
use Rattle.model.specs.Picture.{cells, picture, counts, count_entries}
use Rattle.model.specs.Booking.{cells_where}
use Rattle.model.proofs.Tests.{tally_some}
use Rattle.model.proofs.Totals.{total, total_cong, tally_map}
use Rattle.model.proofs.Cells.{cells_length, cells_equal, of_cells}
use Rattle.model.proofs.Counts.{counts_total}
use Rattle.model.proofs.Pictures.{closest_counted}
use Rattle.model.proofs.PanelNumbers.{panel_bounded}
use Rattle.model.proofs.PanelSums.{occurrences_where, panel_sum_lem}
use Rattle.windows.specs.Windows.{TileCall, Tiling, AcceptedTile, cell_from, whole_picture, add_up, added_count, added_patch_count, window_has, Passes, WholeWindow, TilesGiveWindow}
use Rattle.windows.proofs.TileSums.{over_range, tiles_where}
use Rattle.windows.proofs.TileCalls.{window_shows, call, tile_inside, sound, window_right, window_only, window_has_lem, tile_at, count_left, patch_count_left, counter_left}

-- ---- lists of calls

-- where each tile that holds a cell shows n there, and one holds it, the whole picture shows n
from_tiles :
    (x y n : ℕ) (calls : List TileCall) →
    ((t : TileCall) → Memᴰ t calls → T (holds t.tile x y) → cell_from (t ∷ []) x y ≡ n) →
    0 < tally (λ (t : TileCall). holds t.tile x y) calls →
    cell_from calls x y ≡ n
unfolding cell_from
from_tiles x y n [] shows h = absurd (omega arith)
from_tiles x y n (t ∷ calls) shows h =
    go (holds t.tile x y) _ _ (shows t (Memᴰ.head refl)) h (from_tiles x y n calls (λ u m. shows u (Memᴰ.tail m)))
  where
    others : ℕ
    others = tally (λ (u : TileCall). holds u.tile x y) calls

    go : (b : Bool) (here there : ℕ) → (T b → cond b here 0 ≡ n) → 0 < add_if b others → (0 < others → there ≡ n) → cond b here there ≡ n
    go true here there shows h later = shows tt
    go false here there shows h later = later h

-- a counter that rises with each call of a kind, and with no other, rises by how many there are
passes_tally :
    (last : TileCall → Bool) (n m : ℕ) (calls : List TileCall) →
    ((t : TileCall) → Memᴰ t calls → t.after.counter ≡ cond (last t) (t.before.counter + 1) t.before.counter) →
    Passes n calls m →
    m ≡ n + tally last calls
passes_tally last n m [] rises e = omega arith
passes_tally last n m (t ∷ calls) rises p =
    passes_tally last t.after.counter m calls (λ u k. rises u (Memᴰ.tail k)) p.1
    ∙ go (last t) (rises t (Memᴰ.head refl))
  where
    go : (b : Bool) → t.after.counter ≡ cond b (t.before.counter + 1) t.before.counter → t.after.counter + tally last calls ≡ n + add_if b (tally last calls)
    go true e = omega (arith, p.0)
    go false e = omega (arith, p.0)

-- ---- a tiling

module _ {bytes : List ℕ} {v : View} {calls : List TileCall} (tiling : Tiling bytes v calls) where
  abbrev width : ℕ
  width = window_width v

  abbrev height : ℕ
  height = window_height v

  -- one call's tile holds a cell
  held_once : (x y : ℕ) → x < width → y < height → tally (λ (t : TileCall). holds t.tile x y) calls ≡ 1
  held_once x y h k =
      omega (arith, tally_map (λ (t : Tile). holds t x y) (λ (t : TileCall). t.tile) calls, tiling.once x y h k)

  -- which it is
  pub holder : (x y : ℕ) → x < width → y < height → (t : TileCall) × Memᴰ t calls × T (holds t.tile x y)
  holder x y h k = (tally_some (λ (t : TileCall). holds t.tile x y) calls).0 (omega (arith, held_once x y h k))

  -- which was accepted
  pub held : (x y : ℕ) → (h : x < width) → (k : y < height) → AcceptedTile bytes v (holder x y h k).0
  held x y h k = tiling.accepted (holder x y h k).0 (holder x y h k).1

  -- each cell of the whole picture is what the window's line there shows
  pub cell_shown : (x y : ℕ) → x < width → y < height → cell_from calls x y ≡ window_shows bytes v x y
  cell_shown x y h k =
      from_tiles x y (window_shows bytes v x y) calls (λ t m s. tile_at (tiling.accepted t m) x y s) (omega (arith, held_once x y h k))

  -- so the whole picture is the window's
  pub whole_picture_lem : whole_picture v.camera.window calls ≡ picture v.eye width height (cell_line v.camera) (patches_in bytes)
  unfolding whole_picture picture
  whole_picture_lem = (cells_equal width height (cell_from calls) (window_shows bytes v)).1 cell_shown

  -- what the tiles' tables hold of their own cells adds up to what a test says of the window's
  tables_add :
      (entry : TileCall → ℕ) (test : ℕ → ℕ → Bool) →
      ((t : TileCall) → Memᴰ t calls →
      entry t ≡ cells_where t.tile.width t.tile.height (λ (i j : ℕ). test (t.tile.left + i) (t.tile.top + j))) →
      add_up entry calls ≡ cells_where width height test
  unfolding total
  tables_add entry test left =
      total_cong entry _ calls left
      ∙ tiles_where (λ (t : TileCall). t.tile) v.camera.window calls (λ t m. tile_inside (tiling.accepted t m)) held_once test

  -- "their counts add to its counts": each panel's, and each patch's below
  pub counts_add : (n : ℕ) → n < count_entries → added_count calls n ≡ occurrences n (whole_picture v.camera.window calls)
  unfolding picture
  counts_add n h =
      tables_add _ (λ (x y : ℕ). eqb (window_shows bytes v x y) n) (λ t m. count_left (tiling.accepted t m) n h)
      ∙ sym (occurrences_where width height (window_shows bytes v) n)
      ∙ ap (occurrences n) (sym whole_picture_lem)

  patch_counts_add :
      (k : ℕ) → k < length (patches_in bytes) →
      added_patch_count calls k ≡ cells_where width height (λ (x y : ℕ). window_has bytes v x y k)
  patch_counts_add k h =
      tables_add _ (λ (x y : ℕ). window_has bytes v x y k) (λ t m. patch_count_left (tiling.accepted t m) k h)

  -- the added counts add up to the window's cells: each cell's number has an entry
  counts_sum : sum ◌+◌ 0 (map (added_count calls) (range 0 count_entries)) ≡ width * height
  unfolding total counts picture
  counts_sum =
      over_range (added_count calls) (λ (n : ℕ). occurrences n (cells width height (window_shows bytes v))) 0 count_entries
      (λ n l h. counts_add n (rw zero-add at h) ∙ ap (occurrences n) whole_picture_lem)
      ∙ counts_total (cells width height (window_shows bytes v))
      (of_cells width height (window_shows bytes v) (λ (n : ℕ). n < count_entries)
      (λ x y h k.
      closest_counted v.eye width height (cell_line v.camera) (patches_in bytes) (cell_line v.camera x y)
      (panel_bounded (decode bytes) (call (held x y h k)).scene.panels)))
      ∙ cells_length width height (window_shows bytes v)

  -- a panel's added count is the sum over its patches' added counts
  panels_sum :
      (n : ℕ) → 1 ≤ n → n < count_entries →
      added_count calls n
      ≡ sum ◌+◌ 0
      (map (λ (k : ℕ). cond (eqb (numbered (patches_in bytes) k).panel n) (added_patch_count calls k) 0)
      (range 0 (length (patches_in bytes))))
  unfolding total
  panels_sum n one h =
      counts_add n h
      ∙ ap (occurrences n) whole_picture_lem
      ∙ panel_sum_lem v.eye width height (cell_line v.camera) (patches_in bytes) n one
      ∙ over_range _ _ 0 (length (patches_in bytes))
      (λ k l m.
      ap (λ (c : ℕ). cond (eqb (numbered (patches_in bytes) k).panel n) c 0) (sym (patch_counts_add k (rw zero-add at m))))

  -- one tile holds the window's last cell
  counter_once_lem : (n m : ℕ) → 0 < width → 0 < height → Passes n calls m → m ≡ n + 1
  counter_once_lem n m h k p =
      passes_tally (λ (t : TileCall). holds t.tile (width - 1) (height - 1)) n m calls
      (λ t m. counter_left (tiling.accepted t m)) p
      ∙ ap (λ (r : ℕ). n + r) (held_once (width - 1) (height - 1) (omega arith) (omega arith))

  -- all of it, from the calls' contracts
  pub all_told : WholeWindow bytes v calls
  all_told =
      record {
        whole = whole_picture_lem;
        shown = λ x y h k. rw (cell_shown x y h k) (window_right (held x y h k) (sound (held x y h k)) x y);
        shown_only = λ x y n h k s. window_only (held x y h k) (sound (held x y h k)) x y s ∙ sym (cell_shown x y h k);
        counted = counts_add;
        summed = counts_sum;
        booked = patch_counts_add;
        booked_first = λ x y k h l. window_has_lem (held x y h l) (sound (held x y h l)) x y k;
        panel_sum = panels_sum;
        counter_rises = λ t m. counter_left (tiling.accepted t m);
        counter_once = counter_once_lem;
      }

-- "All tiles that cover the window once, each of them accepted, give the whole picture, and their counts add to its counts."
pub whole_window : TilesGiveWindow
whole_window bytes v calls tiling = all_told tiling
