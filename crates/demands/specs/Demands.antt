-- Demands 1 to 3, and two cuttings of one ring (document 02, F-5), as statements about calls.
use Rattle.std.specs.Prelude.{◌≡◌, Bool, not, cond, ◌↔◌, ℕ, ◌+◌, ◌*◌, ◌≤◌, ◌<◌, T, eqb, length, get_or}
use mathlib.Core.List.{List, map, sum}
use Rattle.model.specs.Lists.{every, range, tally, occurrences}
use Rattle.model.specs.Patch.{Patch, numbered}
use Rattle.model.specs.View.{Camera, View, window_column, window_row, picture_width, picture_height}
use Rattle.model.specs.Station.{Station, eye_of, view_at}
use Rattle.model.specs.Beside.{ShownBeside, HasBeside, tile_line}
use Rattle.model.specs.Lent.{Lent}
use Rattle.model.specs.Format.{patches_in}
use Rattle.model.specs.Row.{row_of, row_length, list_of}
use Rattle.model.specs.Map.{row_words, row_bits, lit_column, lit_at, SameCells, words_of, lit_cells, first_of, first_unlit}
use Rattle.model.specs.Picture.{count_entries}
use Rattle.model.specs.Booking.{has_cell, cells_where}
use Rattle.model.specs.Call.{Call}
use Rattle.model.specs.Questions.{Question, questions, survey_answer}
use Rattle.model.specs.Removal.{is_chosen, kept, TakenAway}
use Rattle.contract.specs.Contract.{call_on, results, Surveyed}
use Rattle.coverage.specs.Coverage.{SameCover}

-- cell (i, j) of a view's picture, counted from the tile's top left cell
abbrev pub cell : View → List ℕ → ℕ → ℕ → ℕ
cell v picture i j = get_or picture (j * picture_width v + i) 0

-- What the lines just beside the sight line of cell (i, j) of a view's picture show, and the patch that has the cell. Document 02, F-9: "A tile's cells are those of the whole window's sight lines at that place."
abbrev pub CellShows : View → List Patch → ℕ → ℕ → ℕ → Type 0
CellShows v ps i j n = ShownBeside v ps (window_column v.camera i) (window_row v.camera j) n

abbrev pub CellHeldBy : View → List Patch → ℕ → ℕ → ℕ → Type 0
CellHeldBy v ps i j k = HasBeside v ps (window_column v.camera i) (window_row v.camera j) k

-- Patch k of a scene has cell (i, j) of a view. The test goes by the one line that an equation needs; `booked_first` below says it by the lines just beside.
abbrev pub patch_has : List ℕ → View → ℕ → ℕ → ℕ → Bool
patch_has bytes v i j k = has_cell v.eye (tile_line v.camera i j) (patches_in bytes) k

-- Demand 1: "every call ends with a full picture or with the one numbered refusal that document 01 gives, a scene is accepted exactly if it keeps the rules there,
-- and a refusal leaves picture, counts, unlit lists and station counter untouched." So it leaves everything lent, the table of the patches' cells and the lit map too.
pub record RefusesRightly (bytes : List ℕ) (s : Station) (c : Camera) (before after : Lent) (result : ℕ) : Type 0 where
  pub exactly : (result ≡ 0) ↔ T (every (λ (q : Question Call). q.test (call_on bytes s c before)) questions)
  pub numbered : result ≡ survey_answer (call_on bytes s c before)
  pub painted : result ≡ 0 → after ≡ results (call_on bytes s c before)
  pub untouched : (result ≡ 0 → ⊥) → after ≡ before

-- Demand 2, of an accepted call: "Each cell of an accepted scene's picture holds the panel that Fuchs, Kedem and Naylor define: the polygon closest to the eye along
-- that cell's sight line. A polygon is met only strictly inside its edges; at one and the same nearest point the lowest panel number shows; where none is met the
-- cell holds 0. All of it is exact in whole numbers, and each count is the number of such cells." Document 01: the counts "add up to width × height"; the unlit lists are the
-- rows of the cells that hold 0. Document 02, F-2: "A further lent table (u32, one entry a patch) receives each patch's cells. A panel's count is the sum over its
-- patches." No cell is booked to two patches, the patch that has a cell is of the panel that the cell shows, and each cell that shows a panel is some patch's. Whose it is: "Where two patches
-- of one panel overlap in a plane, the earlier in the list has the cell." F-3: what is met and what is closest is read by the lines just beside the cell's sight line, and one
-- number alone is what they show. F-8: "bit i mod 64 of word i / 64 set when column i is lit. Columns beyond the width stay clear." Map and lists describe the same cells, and the two answers on a
-- row are those of its cells. F-9: the picture is that of the view's tile, each cell read by the whole window's sight line at that place, and the counts, lists and map are those of the tile's cells.
pub record ClosestPanels (bytes : List ℕ) (v : View) (after : Lent) : Type 0 where
  pub cells :
      (i j : ℕ) → i < picture_width v → j < picture_height v →
      CellShows v (patches_in bytes) i j (cell v after.picture i j)
  pub cells_only :
      (i j n : ℕ) → i < picture_width v → j < picture_height v → CellShows v (patches_in bytes) i j n → n ≡ cell v after.picture i j
  pub whole : length after.picture ≡ picture_width v * picture_height v
  pub counted : (n : ℕ) → n < count_entries → get_or after.counts n 0 ≡ occurrences n after.picture
  pub entries : length after.counts ≡ count_entries
  pub summed : sum ◌+◌ 0 after.counts ≡ picture_width v * picture_height v
  pub booked :
      (k : ℕ) → k < length (patches_in bytes) →
      get_or after.patch_counts k 0 ≡ cells_where (picture_width v) (picture_height v) (λ (i j : ℕ). patch_has bytes v i j k)
  pub patch_entries : length after.patch_counts ≡ length (patches_in bytes)
  pub booked_first :
      (i j k : ℕ) → T (patch_has bytes v i j k) ↔ CellHeldBy v (patches_in bytes) i j k
  pub booked_some :
      (i j : ℕ) → i < picture_width v → j < picture_height v → ¬ (cell v after.picture i j ≡ 0) →
      (k : ℕ) × (k < length (patches_in bytes)) × T (patch_has bytes v i j k)
  pub booked_once :
      (i j k m : ℕ) → k < length (patches_in bytes) → m < length (patches_in bytes) →
      T (patch_has bytes v i j k) → T (patch_has bytes v i j m) → k ≡ m
  pub booked_panel :
      (i j k : ℕ) → i < picture_width v → j < picture_height v → k < length (patches_in bytes) → T (patch_has bytes v i j k) →
      cell v after.picture i j ≡ (numbered (patches_in bytes) k).panel
  pub panel_sum :
      (n : ℕ) → 1 ≤ n → n < count_entries →
      get_or after.counts n 0
      ≡ sum ◌+◌ 0
      (map (λ (k : ℕ). cond (eqb (numbered (patches_in bytes) k).panel n) (get_or after.patch_counts k 0) 0)
      (range 0 (length (patches_in bytes))))
  pub rows :
      (j : ℕ) → j < picture_height v →
      list_of after.unlit j ≡ row_of (picture_width v) (λ (i : ℕ). eqb (cell v after.picture i j) 0)
  pub row_count : length after.unlit ≡ picture_height v * row_length
  pub lit :
      (i j : ℕ) → i < row_bits → j < picture_height v →
      lit_at (words_of after.lit j) i ≡ lit_column (picture_width v) (λ (k : ℕ). eqb (cell v after.picture k j) 0) i
  pub word_count : length after.lit ≡ picture_height v * row_words
  pub same : (j : ℕ) → j < picture_height v → SameCells (picture_width v) (list_of after.unlit j) (words_of after.lit j)
  pub lit_in_row :
      (j : ℕ) → j < picture_height v →
      lit_cells after.lit j ≡ tally (λ (i : ℕ). not (eqb (cell v after.picture i j) 0)) (range 0 (picture_width v))
  pub first_in_row :
      (j : ℕ) → j < picture_height v →
      first_unlit after.lit (picture_width v) j ≡ first_of (λ (i : ℕ). eqb (cell v after.picture i j) 0) 0 (picture_width v)

-- All that the survey call promises: its equations, and demand 2 of every accepted call.
pub record ClosestSurveyed (bytes : List ℕ) (s : Station) (c : Camera) (before after : Lent) (result : ℕ) : Type 0 where
  pub surveyed : Surveyed bytes s c before after result
  pub closest_panels : result ≡ 0 → ClosestPanels bytes (view_at s c) after

-- Document 02, F-1: "Closest panel and chosen panels are meant along these directions, and the two pictures compared are of one view." F-3: each direction is read by the lines just beside it.
-- F-9: "The chosen-panel comparison is between tiles of one place and size".
-- Demand 3, of two accepted calls with one view (eye, axes, window and tile), on a scene and on one that "has just the first's patches less all those of the chosen panels":
-- "The two pictures are equal, cell by cell, exactly when every chosen panel's count, from the call on the first scene, is zero. Equal or not, each cell of the
-- first holds its closest panel .., or 0; the pictures differ in exactly the cells where the first shows a chosen panel, and in each of these the second shows
-- the closest of the panels kept, or 0." Of the cell's closest among the panels kept: "among the first scene's patches with those of chosen panels left out".
pub record ChosenTakenAway (bytes : List ℕ) (chosen : ℕ → Bool) (v : View) (first second : Lent) : Type 0 where
  pub equal :
      (first.picture ≡ second.picture) ↔ ((n : ℕ) → T (is_chosen chosen n) → get_or first.counts n 0 ≡ 0)
  pub closest :
      (i j : ℕ) → i < picture_width v → j < picture_height v →
      CellShows v (patches_in bytes) i j (cell v first.picture i j)
  pub differ :
      (i j : ℕ) → i < picture_width v → j < picture_height v →
      (¬ (cell v first.picture i j ≡ cell v second.picture i j)) ↔ T (is_chosen chosen (cell v first.picture i j))
  pub shown :
      (i j : ℕ) → i < picture_width v → j < picture_height v → T (is_chosen chosen (cell v first.picture i j)) →
      CellShows v (kept chosen (patches_in bytes)) i j (cell v second.picture i j)

-- Demand 3, for any chosen panels: "All this holds whatever the two trees are and whatever the lent buffers held before." Of the two stations it asks that they have one eye, in
-- whatever form they came (document 02, F-7: "The picture is that of the whole-number station"). The calls' contracts stand beside it below.
abbrev pub DemandThree :
    (first_bytes second_bytes : List ℕ) (s₁ s₂ : Station) (c : Camera) (first second : Lent) (first_result second_result : ℕ) → Type 0
DemandThree first_bytes second_bytes s₁ s₂ c first second first_result second_result =
    (chosen : ℕ → Bool) → eye_of s₁ ≡ eye_of s₂ → first_result ≡ 0 → second_result ≡ 0 →
    TakenAway chosen (patches_in first_bytes) (patches_in second_bytes) →
    ChosenTakenAway first_bytes chosen (view_at s₁ c) first second

-- Document 02, F-5, of two accepted calls with one view: "their pictures and panel counts must agree". The unlit lists and the lit map go by the picture, so they agree too. "Patch
-- counts may differ": nothing is said of them, nor of the counters, which may have been different before.
pub record SameSurvey (first second : Lent) : Type 0 where
  pub pictures : first.picture ≡ second.picture
  pub panel_counts : first.counts ≡ second.counts
  pub unlit_lists : first.unlit ≡ second.unlit
  pub lit_maps : first.lit ≡ second.lit

-- F-5: "Take two accepted scenes where each panel covers the same points of space, its pieces' edges and corners counted in, whatever its pieces. .. From every
-- accepted view their pictures and panel counts must agree, by the joint rule of F-3." The two calls, with one camera, stand beside it below, and their stations have one eye; the
-- trees and what the buffers held have no part in it.
abbrev pub TwoCuttings :
    (first_bytes second_bytes : List ℕ) (s₁ s₂ : Station) (first second : Lent) (first_result second_result : ℕ) → Type 0
TwoCuttings first_bytes second_bytes s₁ s₂ first second first_result second_result =
    eye_of s₁ ≡ eye_of s₂ → first_result ≡ 0 → second_result ≡ 0 → SameCover (patches_in first_bytes) (patches_in second_bytes) →
    SameSurvey first second

-- Both calls, each as the survey call promises it, demand 3 of them, and what F-5 says of two cuttings.
pub record PairSurveyed
    (first_bytes second_bytes : List ℕ) (s₁ s₂ : Station) (c : Camera) (before₁ after₁ before₂ after₂ : Lent) (result₁ result₂ : ℕ)
    : Type 0 where
  pub first_call : ClosestSurveyed first_bytes s₁ c before₁ after₁ result₁
  pub second_call : ClosestSurveyed second_bytes s₂ c before₂ after₂ result₂
  pub demand_three : DemandThree first_bytes second_bytes s₁ s₂ c after₁ after₂ result₁ result₂
  pub two_cuttings : TwoCuttings first_bytes second_bytes s₁ s₂ after₁ after₂ result₁ result₂
