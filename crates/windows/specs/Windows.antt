-- Whole windows from tiles (document 02, F-9), as statements about lists of calls.
use Rattle.std.specs.Prelude.{◌≡◌, Bool, cond, ◌↔◌, ℕ, ◌+◌, ◌*◌, ◌-◌, ◌≤◌, ◌<◌, T, eqb, length, get_or}
use mathlib.Core.List.{List, [], ◌∷◌, map, sum, Memᴰ}
use Rattle.model.specs.Lists.{range, tally, occurrences}
use Rattle.model.specs.Patch.{numbered}
use Rattle.model.specs.View.{Window, Tile, Camera, View, holds, window_width, window_height}
use Rattle.model.specs.Station.{Station, eye_of}
use Rattle.model.specs.Beside.{ShownBeside, HasBeside, cell_line}
use Rattle.model.specs.Lent.{Lent}
use Rattle.model.specs.Format.{patches_in}
use Rattle.model.specs.Picture.{cells, picture, count_entries}
use Rattle.model.specs.Booking.{has_cell, cells_where}
use Rattle.model.specs.Removal.{is_chosen, kept, TakenAway}
use Rattle.contract.specs.Contract.{Surveyed}
use Rattle.coverage.specs.Coverage.{SameCover}

-- a call on a tile: from which station, on which tile, with what lent before and after, and how it ended. "each lent its own buffers"
pub record TileCall : Type 0 where
  pub station : Station
  pub tile : Tile
  pub before : Lent
  pub after : Lent
  pub result : ℕ

-- the camera, drawing another tile of its window
abbrev pub on_tile : Camera → Tile → Camera
on_tile c t = record { axes = c.axes; window = c.window; tile = t }

-- An accepted call on a tile of a view's window: the survey call, by its contract, on this scene, from a station that has the view's eye, with the view's axes and window; and it
-- ended in "done". The view's own tile has no part in it.
pub record AcceptedTile (bytes : List ℕ) (v : View) (t : TileCall) : Type 0 where
  pub one_eye : eye_of t.station ≡ v.eye
  pub surveyed : Surveyed bytes t.station (on_tile v.camera t.tile) t.before t.after t.result
  pub done : t.result ≡ 0

-- "All tiles that cover the window once": each cell of the window lies in exactly one tile.
abbrev pub CoverOnce : Window → List Tile → Type 0
CoverOnce w tiles = (x y : ℕ) → x < w.width → y < w.height → tally (λ (t : Tile). holds t x y) tiles ≡ 1

-- "All tiles that cover the window once, each of them accepted"
pub record Tiling (bytes : List ℕ) (v : View) (calls : List TileCall) : Type 0 where
  pub accepted : (t : TileCall) → Memᴰ t calls → AcceptedTile bytes v t
  pub once : CoverOnce v.camera.window (map (λ (t : TileCall). t.tile) calls)

-- Cell (x, y) of the whole picture: what the call on the tile that holds it left there, counted from that tile's top left cell; 0 where no tile holds it.
unfoldable pub cell_from : List TileCall → ℕ → ℕ → ℕ
cell_from [] x y = 0
cell_from (t ∷ ts) x y =
    cond (holds t.tile x y)
    (get_or t.after.picture ((y - t.tile.top) * t.tile.width + (x - t.tile.left)) 0)
    (cell_from ts x y)

-- the whole picture that the tiles give
unfoldable pub whole_picture : Window → List TileCall → List ℕ
whole_picture w calls = cells w.width w.height (cell_from calls)

-- a number of each call, added up
abbrev pub add_up : (TileCall → ℕ) → List TileCall → ℕ
add_up f calls = sum ◌+◌ 0 (map f calls)

-- "their counts add": the calls' counts of one panel, and of one patch
abbrev pub added_count : List TileCall → ℕ → ℕ
added_count calls n = add_up (λ (t : TileCall). get_or t.after.counts n 0) calls

abbrev pub added_patch_count : List TileCall → ℕ → ℕ
added_patch_count calls k = add_up (λ (t : TileCall). get_or t.after.patch_counts k 0) calls

-- patch k of a scene has cell (x, y) of the window, by the one line that an equation needs; `booked_first` below says it by the lines just beside
abbrev pub window_has : List ℕ → View → ℕ → ℕ → ℕ → Bool
window_has bytes v x y k = has_cell v.eye (cell_line v.camera x y) (patches_in bytes) k

-- The counter passes from call to call: it is n before the first of them and m after the last.
abbrev pub Passes : ℕ → List TileCall → ℕ → Type 0
Passes n [] m = n ≡ m
Passes n (t ∷ ts) m = (t.before.counter ≡ n) × Passes t.after.counter ts m

-- "All tiles that cover the window once, each of them accepted, give the whole picture, and their counts add to its counts." Each cell of it holds its closest panel along the whole window's sight line, by
-- the joint rule (F-3). "The station counter rises with the tile that holds the window's last cell, and with no other": so it rises once in all. (A window without cells has no last one, and no call on it is
-- accepted.)
pub record WholeWindow (bytes : List ℕ) (v : View) (calls : List TileCall) : Type 0 where
  pub whole :
      whole_picture v.camera.window calls
      ≡ picture v.eye (window_width v) (window_height v) (cell_line v.camera) (patches_in bytes)
  pub shown :
      (x y : ℕ) → x < window_width v → y < window_height v →
      ShownBeside v (patches_in bytes) x y (cell_from calls x y)
  pub shown_only :
      (x y n : ℕ) → x < window_width v → y < window_height v →
      ShownBeside v (patches_in bytes) x y n → n ≡ cell_from calls x y
  pub counted :
      (n : ℕ) → n < count_entries → added_count calls n ≡ occurrences n (whole_picture v.camera.window calls)
  pub summed :
      sum ◌+◌ 0 (map (added_count calls) (range 0 count_entries)) ≡ window_width v * window_height v
  pub booked :
      (k : ℕ) → k < length (patches_in bytes) →
      added_patch_count calls k ≡ cells_where (window_width v) (window_height v) (λ (x y : ℕ). window_has bytes v x y k)
  pub booked_first :
      (x y k : ℕ) → x < window_width v → y < window_height v →
      T (window_has bytes v x y k) ↔ HasBeside v (patches_in bytes) x y k
  pub panel_sum :
      (n : ℕ) → 1 ≤ n → n < count_entries →
      added_count calls n
      ≡ sum ◌+◌ 0
      (map (λ (k : ℕ). cond (eqb (numbered (patches_in bytes) k).panel n) (added_patch_count calls k) 0)
      (range 0 (length (patches_in bytes))))
  pub counter_rises :
      (t : TileCall) → Memᴰ t calls →
      t.after.counter ≡ cond (holds t.tile (window_width v - 1) (window_height v - 1)) (t.before.counter + 1) t.before.counter
  pub counter_once :
      (n m : ℕ) → 0 < window_width v → 0 < window_height v → Passes n calls m → m ≡ n + 1

-- what all tiles that cover a window once give
abbrev pub TilesGiveWindow : Type 0
TilesGiveWindow = (bytes : List ℕ) (v : View) (calls : List TileCall) → Tiling bytes v calls → WholeWindow bytes v calls

-- Demand 3 for whole windows, over the calls on two scenes, whose tiles may differ: "The two pictures are equal, cell by cell, exactly when every chosen panel's count, from the call on the first scene, is
-- zero", here the count added over the calls; and the rest of it as for one tile (`ChosenTakenAway`). Document 02, F-9: "The chosen-panel comparison .. is wanted for whole windows too, with the added counts."
pub record WindowsTakenAway (bytes : List ℕ) (chosen : ℕ → Bool) (v : View) (first second : List TileCall) : Type 0 where
  pub equal :
      (whole_picture v.camera.window first ≡ whole_picture v.camera.window second)
      ↔ ((n : ℕ) → T (is_chosen chosen n) → added_count first n ≡ 0)
  pub closest :
      (x y : ℕ) → x < window_width v → y < window_height v →
      ShownBeside v (patches_in bytes) x y (cell_from first x y)
  pub differ :
      (x y : ℕ) → x < window_width v → y < window_height v →
      (¬ (cell_from first x y ≡ cell_from second x y)) ↔ T (is_chosen chosen (cell_from first x y))
  pub shown :
      (x y : ℕ) → x < window_width v → y < window_height v → T (is_chosen chosen (cell_from first x y)) →
      ShownBeside v (kept chosen (patches_in bytes)) x y (cell_from second x y)

-- Two cuttings of one ring (F-5) for whole windows, whose tiles may differ: "their pictures and panel counts must agree".
pub record SameWindow (w : Window) (first second : List TileCall) : Type 0 where
  pub pictures : whole_picture w first ≡ whole_picture w second
  pub panel_counts : (n : ℕ) → n < count_entries → added_count first n ≡ added_count second n

-- The comparison of two whole windows, of one eye, axes and window: demand 3 for any chosen panels, and two cuttings.
pub record WindowsCompared (first_bytes second_bytes : List ℕ) (v : View) (first second : List TileCall) : Type 0 where
  pub demand_three :
      (chosen : ℕ → Bool) → TakenAway chosen (patches_in first_bytes) (patches_in second_bytes) →
      WindowsTakenAway first_bytes chosen v first second
  pub two_cuttings : SameCover (patches_in first_bytes) (patches_in second_bytes) → SameWindow v.camera.window first second

-- what two such lists of calls give, each with tiles of its own that cover the window once
abbrev pub WindowsCompare : Type 0
WindowsCompare =
    (first_bytes second_bytes : List ℕ) (v : View) (first second : List TileCall) →
    Tiling first_bytes v first → Tiling second_bytes v second → WindowsCompared first_bytes second_bytes v first second
