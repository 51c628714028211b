-- Demand 3 and two cuttings for whole windows: "The chosen-panel comparison .. is wanted for whole windows too, with the added counts" (document 02, F-9).
use mathlib.Core.Path.{◌≡◌, sym, ap, ◌∙◌}
use mathlib.Core.Bool.{Bool}
use mathlib.Core.List.{List}
use Prim.Native.Nat.{ℕ, ◌+◌, ◌*◌, ◌<◌}
use lib.Dec.{T}
use lib.ListN.{get_or}
use Rattle.model.specs.Lists.{occurrences}
use Rattle.model.specs.View.{View, window_width, window_height}
use Rattle.model.specs.Beside.{cell_line}
use Rattle.model.specs.Format.{patches_in}
use Rattle.model.specs.Picture.{picture}
use Rattle.model.specs.Removal.{is_chosen, TakenAway}
use Rattle.model.proofs.Cells.{cells_equal}
use Rattle.model.proofs.PatchTables.{kept_sound}
use Rattle.model.proofs.Pictures.{picture_at}
use Rattle.model.proofs.Removal.{chosen_counted, pictures_counted, cell_differs, cell_shows}
use Rattle.coverage.specs.Coverage.{SameCover}
use Rattle.coverage.proofs.SameCells.{same_cells}
use Rattle.windows.specs.Windows.{TileCall, Tiling, cell_from, whole_picture, added_count, WindowsTakenAway, SameWindow, WindowsCompare}
use Rattle.windows.proofs.TileCalls.{tile_view, call, view_in_range_lem, sound, window_right}
use Rattle.windows.proofs.WholeWindow.{held, cell_shown, whole_picture_lem, counts_add, all_told}

-- a cell of the whole picture, by its place in the window's picture
in_picture :
    {bytes : List ℕ} {v : View} {calls : List TileCall} → Tiling bytes v calls → (x y : ℕ) →
    x < window_width v → y < window_height v →
    cell_from calls x y
    ≡ get_or (picture v.eye (window_width v) (window_height v) (cell_line v.camera) (patches_in bytes)) (y * window_width v + x) 0
in_picture {bytes} {v} tiling x y i j =
    cell_shown tiling x y i j
    ∙ sym (picture_at v.eye (window_width v) (window_height v) (cell_line v.camera) (patches_in bytes) x y i j)

module _
    {first_bytes second_bytes : List ℕ} {v : View} {first second : List TileCall}
    (one : Tiling first_bytes v first) (two : Tiling second_bytes v second)
  where
    abbrev width : ℕ
    width = window_width v

    abbrev height : ℕ
    height = window_height v

    module _ (chosen : ℕ → Bool) (taken : TakenAway chosen (patches_in first_bytes) (patches_in second_bytes)) where
      -- a chosen panel's added count is how often it stands in the first picture
      chosen_count :
          (n : ℕ) → T (is_chosen chosen n) →
          added_count first n ≡ occurrences n (picture v.eye width height (cell_line v.camera) (patches_in first_bytes))
      chosen_count n t = counts_add one n (chosen_counted chosen n t) ∙ ap (occurrences n) (whole_picture_lem one)

      -- demand 3, from the two whole pictures
      windows_taken_away : WindowsTakenAway first_bytes chosen v first second
      windows_taken_away =
          let ps = patches_in first_bytes in
          let qs = patches_in second_bytes in
          let line = cell_line v.camera in
          let same = pictures_counted chosen ps qs taken v.eye width height line in
          record {
            equal = (
              λ e n t. chosen_count n t ∙ same.0 (sym (whole_picture_lem two) ∙ sym e ∙ whole_picture_lem one) n t,
              λ f. whole_picture_lem one ∙ sym (same.1 (λ n t. sym (chosen_count n t) ∙ f n t)) ∙ sym (whole_picture_lem two),
            );
            closest = (all_told one).shown;
            differ =
                λ x y i j.
                let d = cell_differs chosen ps qs taken v.eye width height line x y i j in
                rw (in_picture one x y i j, in_picture two x y i j) (λ f. d.0 (λ e. f (sym e)), λ t e. d.1 t (sym e));
            shown =
                λ x y i j t.
                rw (in_picture two x y i j ∙ cell_shows chosen ps qs taken v.eye width height line x y i j)
                (window_right (held one x y i j) (kept_sound chosen (sound (held one x y i j))) x y);
          }

    module _ (same : SameCover (patches_in first_bytes) (patches_in second_bytes)) where
      -- two cuttings show the same in each cell: the tiles that hold it may differ, and either's view will do
      same_shown : (x y : ℕ) → x < width → y < height → cell_from first x y ≡ cell_from second x y
      unfolding cell_line
      same_shown x y i j =
          let a = held one x y i j in
          let b = held two x y i j in
          cell_shown one x y i j
          ∙ ap (λ (f : ℕ → ℕ → ℕ). f x y) (same_cells (tile_view a) (view_in_range_lem a) (call a).axes (sound a) (sound b) same)
          ∙ sym (cell_shown two x y i j)

      same_pictures : whole_picture v.camera.window first ≡ whole_picture v.camera.window second
      unfolding whole_picture
      same_pictures = (cells_equal width height (cell_from first) (cell_from second)).1 same_shown

      -- so their pictures agree, and the counts with them
      same_window : SameWindow v.camera.window first second
      same_window =
          record {
            pictures = same_pictures;
            panel_counts = λ n l. counts_add one n l ∙ ap (occurrences n) same_pictures ∙ sym (counts_add two n l);
          }

-- demand 3 and two cuttings for whole windows, from the calls' contracts
pub windows_compared : WindowsCompare
windows_compared first_bytes second_bytes v first second one two =
    record { demand_three = windows_taken_away one two; two_cuttings = same_window one two }
