-- Demands 1, 2 and 3 and two cuttings, from the survey's contract alone.
use mathlib.Core.Path.{◌≡◌, sym, ◌∙◌, ap, subst, subst₂}
use mathlib.Core.Bool.{Bool, true, not, cond}
use mathlib.Core.Logic.{◌↔◌}
use mathlib.Core.List.{List, [], ◌∷◌, map, sum}
use Prim.Native.Nat.{ℕ, ◌+◌, ◌*◌, ◌≤◌, ◌<◌}
use native.Mathlib.Nat.{zero-add, mul_comm}
use native.Mathlib.Omega.{arith}
use borrow.Author.Tests.{le-leb}
use lib.Dec.{T, T_not, eqb}
use lib.ListN.{length, get_or, take, drop, length-map}
use Rattle.model.specs.Lists.{every, range, tally, occurrences}
use Rattle.model.specs.Patch.{numbered}
use Rattle.model.specs.Ray.{closest}
use Rattle.model.specs.View.{Camera, View, window_column, window_row, picture_width, picture_height}
use Rattle.model.specs.Station.{Station, eye_of, view_at}
use Rattle.model.specs.Beside.{tile_line}
use Rattle.model.specs.Lent.{Lent, lengths_of}
use Rattle.model.specs.Format.{decode, patches_in}
use Rattle.model.specs.Row.{row_of, row_length, list_of}
use Rattle.model.specs.Map.{row_words, row_bits, map_row, lit_at, SameCells, words_of, inside_map, lit_cells, first_of, first_unlit}
use Rattle.model.specs.Picture.{cells, cell_panel, picture, counts, count_entries, unlit_lists, lit_map}
use Rattle.model.specs.Accepted.{AcceptedScene}
use Rattle.model.specs.Questions.{Question, answer, scene_questions, scene_answer, lengths_fit, counter_below_end, call_questions, questions, survey_answer}
use Rattle.model.specs.Booking.{cells_where}
use Rattle.model.specs.Survey.{call_picture, call_counts, call_patch_cells, call_unlit, call_lit}
use Rattle.model.specs.Removal.{kept, TakenAway}
use Rattle.model.proofs.Tests.{both}
use Rattle.model.proofs.Ranges.{range_length, rows_part, rows_length, in_range}
use Rattle.model.proofs.Totals.{total, total_cong}
use Rattle.model.proofs.Answers.{AcceptedCall, accepted_call, accepted_scene, all_yes, answer_yes, answer_done}
use Rattle.model.proofs.Alike.{Sound}
use Rattle.model.proofs.PatchTables.{table_sound, kept_sound}
use Rattle.model.proofs.BesideCells.{beside_right, beside_only, beside_has}
use Rattle.model.proofs.Counts.{counts_at}
use Rattle.model.proofs.Pictures.{picture_length, picture_at, picture_total}
use Rattle.model.proofs.Booked.{booked_some_lem, booked_once_lem, booked_panel_lem}
use Rattle.model.proofs.PanelSums.{patch_entries_lem, patch_entry, panel_sum_lem}
use Rattle.model.proofs.Removal.{pictures_counts, cell_differs, cell_shows}
use Rattle.model.proofs.LitMap.{map_length, map_bit, map_congr, map_tally, map_first}
use Rattle.model.proofs.CallLimits.{view_bounded}
use Rattle.segments.proofs.Rows.{row_length_lem, row_congr}
use Rattle.segments.proofs.Mapped.{same_of_set}
use Rattle.contract.proofs.Refusal.{left_old}
use Rattle.contract.proofs.SameStation.{results_by_eye}
use Rattle.model.proofs.PanelNumbers.{panel_bounded}
use Rattle.contract.specs.Contract.{call_on, results, left_by, Surveyed}
use Rattle.coverage.specs.Coverage.{SameCover}
use Rattle.coverage.proofs.SameCells.{same_cells}
use Rattle.demands.specs.Demands.{cell, CellShows, patch_has, RefusesRightly, ClosestPanels, ClosestSurveyed, ChosenTakenAway, DemandThree, SameSurvey, TwoCuttings, PairSurveyed}

-- an accepted call leaves the results
pub accepted_leaves :
    {bytes : List ℕ} {s : Station} {c : Camera} {before after : Lent} {result : ℕ} →
    Surveyed bytes s c before after result →
    result ≡ 0 →
    after ≡ results (call_on bytes s c before)
accepted_leaves {bytes} {s} {c} {before} h e =
    h.left
    ∙ ap (λ (n : ℕ). left_by n (results (call_on bytes s c before)) before) (sym h.answered ∙ e)

-- and so it was accepted
pub accepted :
    {bytes : List ℕ} {s : Station} {c : Camera} {before after : Lent} {result : ℕ} →
    Surveyed bytes s c before after result →
    result ≡ 0 →
    AcceptedCall (call_on bytes s c before)
accepted {bytes} {s} {c} {before} h e = (accepted_call (call_on bytes s c before)).0 (sym h.answered ∙ e)

-- F-5 says "From every accepted view": a station and a camera are accepted with both scenes or with neither, for 15, 10 and 14 do not look at the scene.
pub accepted_with_both :
    (first_bytes second_bytes : List ℕ) (s : Station) (c : Camera) (before₁ before₂ : Lent) →
    survey_answer (call_on first_bytes s c before₁) ≡ 0 →
    scene_answer second_bytes ≡ 0 →
    T (lengths_fit c (length (decode second_bytes).patches) (lengths_of before₂)) →
    T (counter_below_end before₂.counter) →
    survey_answer (call_on second_bytes s c before₂) ≡ 0
accepted_with_both first_bytes second_bytes s c before₁ before₂ e scene lengths counter =
    let first = (accepted_call (call_on first_bytes s c before₁)).0 e in
    (accepted_call (call_on second_bytes s c before₂)).1
    (record {
      scene = (accepted_scene second_bytes).0 scene;
      station = first.station;
      view = first.view;
      axes = first.axes;
      lengths = lengths;
      counter = counter;
    })

-- the answer is 0 exactly if every question says yes, where no question has the number 0
all_yes_says : {A : Type 0} (qs : List (Question A)) (a : A) → T (every (λ (q : Question A). not (eqb q.number 0)) qs)
    → (answer qs a ≡ 0) ↔ T (every (λ (q : Question A). q.test a) qs)
all_yes_says [] a h = (λ e. tt, λ t. answer_done a)
all_yes_says {A} (q ∷ qs) a h =
    let p = (both (not (eqb q.number 0)) (every (λ (q : Question A). not (eqb q.number 0)) qs)).0 h in
    let rest = all_yes_says qs a p.1 in
    let pair = both (q.test a) (every (λ (q : Question A). q.test a) qs) in (
      λ e. let y = all_yes q qs a (λ z. T_not (eqb q.number 0) p.0 (subst (λ (n : ℕ). T (eqb n 0)) (sym z) tt)) e in
          pair.1 (y.0, rest.0 y.1),
      λ t. answer_yes q qs a (pair.0 t).0 ∙ rest.1 (pair.0 t).1,
    )

-- Demand 1.
pub refuses_rightly :
    {bytes : List ℕ} {s : Station} {c : Camera} {before after : Lent} {result : ℕ} →
    Surveyed bytes s c before after result →
    RefusesRightly bytes s c before after result
unfolding survey_answer questions scene_questions call_questions
refuses_rightly {bytes} {s} {c} {before} {after} {result} h =
    let call = call_on bytes s c before in
    let says = all_yes_says questions call tt in
    record {
      exactly = (λ e. says.0 (sym h.answered ∙ e), λ t. h.answered ∙ says.1 t);
      numbered = h.answered;
      painted = accepted_leaves h;
      untouched = λ f. h.left ∙ sym (left_old (survey_answer call) (results call) before (λ z. f (h.answered ∙ z)));
    }

module _ (bytes : List ℕ) (s : Station) (c : Camera) (before : Lent) (accepted : AcceptedCall (call_on bytes s c before)) where
  abbrev v : View
  v = view_at s c

  sound : Sound (patches_in bytes)
  sound = table_sound accepted.scene

  at :
      (i j : ℕ) → i < picture_width v → j < picture_height v →
      cell v (call_picture (call_on bytes s c before)) i j ≡ closest v.eye (tile_line v.camera i j) (patches_in bytes)
  unfolding call_picture
  at = picture_at v.eye (picture_width v) (picture_height v) (tile_line v.camera) (patches_in bytes)

  abbrev cell_row : ℕ → List ℕ
  cell_row j = row_of (picture_width v) (λ (i : ℕ). eqb (closest v.eye (tile_line v.camera i j) (patches_in bytes)) 0)

  -- the columns of row j that show no panel
  abbrev none_at : ℕ → ℕ → Bool
  none_at j i = eqb (cell v (call_picture (call_on bytes s c before)) i j) 0

  unlit_row :
      (j : ℕ) → j < picture_height v →
      list_of (call_unlit (call_on bytes s c before)) j ≡ row_of (picture_width v) (none_at j)
  unfolding call_unlit unlit_lists call_picture
  unlit_row j h =
      ap (λ (n : ℕ). take row_length (drop n (unlit_lists (picture_width v) (picture_height v) (λ (i j : ℕ). closest v.eye (tile_line v.camera i j) (patches_in bytes))))) (mul_comm row_length j)
      ∙ rows_part row_length cell_row (λ k. row_length_lem (picture_width v) _) 0 (picture_height v) j h
      ∙ ap cell_row (zero-add j)
      ∙ row_congr (picture_width v) _ _
      (λ i k. ap (λ (n : ℕ). eqb n 0) (sym (at i j k h)))

  -- ---- the map

  abbrev map_of : ℕ → List ℕ
  map_of j = map_row (picture_width v) (λ (i : ℕ). eqb (closest v.eye (tile_line v.camera i j) (patches_in bytes)) 0)

  map_count : length (call_lit (call_on bytes s c before)) ≡ picture_height v * row_words
  unfolding call_lit lit_map
  map_count = rows_length row_words map_of (λ k. map_length (picture_width v) _) 0 (picture_height v) ∙ mul_comm row_words (picture_height v)

  narrow : picture_width v ≤ row_bits
  narrow = (view_bounded v accepted.view).narrow

  module _ (j : ℕ) (h : j < picture_height v) where
    map_row_lem : words_of (call_lit (call_on bytes s c before)) j ≡ map_row (picture_width v) (none_at j)
    unfolding call_lit lit_map call_picture
    map_row_lem =
        ap (λ (n : ℕ). take row_words (drop n (lit_map (picture_width v) (picture_height v) (λ (i j : ℕ). closest v.eye (tile_line v.camera i j) (patches_in bytes))))) (mul_comm row_words j)
        ∙ rows_part row_words map_of (λ k. map_length (picture_width v) _) 0 (picture_height v) j h
        ∙ ap map_of (zero-add j)
        ∙ map_congr (picture_width v) _ _ (λ i k. ap (λ (n : ℕ). eqb n 0) (sym (at i j k h)))

    map_same : SameCells (picture_width v) (list_of (call_unlit (call_on bytes s c before)) j) (words_of (call_lit (call_on bytes s c before)) j)
    map_same = rw (unlit_row j h, map_row_lem) (same_of_set (picture_width v) narrow (none_at j))

    map_inside : inside_map (call_lit (call_on bytes s c before)) j ≡ true
    map_inside = le-leb (row_words * (j + 1)) (length (call_lit (call_on bytes s c before))) (omega (arith, map_count))

    lit_in_row_lem : lit_cells (call_lit (call_on bytes s c before)) j ≡ tally (λ (i : ℕ). not (none_at j i)) (range 0 (picture_width v))
    unfolding lit_cells
    lit_in_row_lem = rw (map_inside, map_row_lem) (map_tally (picture_width v) narrow (none_at j))

    first_in_row_lem : first_unlit (call_lit (call_on bytes s c before)) (picture_width v) j ≡ first_of (none_at j) 0 (picture_width v)
    unfolding first_unlit
    first_in_row_lem = rw (map_inside, map_row_lem) (map_first (picture_width v) narrow (none_at j))

  -- the cells of patch k, and its entry in the table; and such a number where the patch is of panel n
  abbrev cells_of : ℕ → ℕ
  cells_of k = cells_where (picture_width v) (picture_height v) (λ (i j : ℕ). patch_has bytes v i j k)

  abbrev entry_of : ℕ → ℕ
  entry_of k = get_or (call_patch_cells (call_on bytes s c before)) k 0

  abbrev of_panel : ℕ → (ℕ → ℕ) → ℕ → ℕ
  of_panel n f k = cond (eqb (numbered (patches_in bytes) k).panel n) (f k) 0

  entry : (k : ℕ) → k < length (patches_in bytes) → entry_of k ≡ cells_of k
  unfolding call_patch_cells
  entry = patch_entry v.eye (picture_width v) (picture_height v) (tile_line v.camera) (patches_in bytes)

  -- a panel's occurrences are the sum over the table's entries of its patches
  entries_sum :
      (n : ℕ) → 1 ≤ n →
      occurrences n (call_picture (call_on bytes s c before)) ≡ sum ◌+◌ 0 (map (of_panel n entry_of) (range 0 (length (patches_in bytes))))
  unfolding call_picture total
  entries_sum n h =
      panel_sum_lem v.eye (picture_width v) (picture_height v) (tile_line v.camera) (patches_in bytes) n h
      ∙ total_cong (of_panel n cells_of) (of_panel n entry_of) (range 0 (length (patches_in bytes)))
      (λ k m.
      ap (λ (x : ℕ). cond (eqb (numbered (patches_in bytes) k).panel n) x 0)
      (sym (entry k (rw zero-add at ((in_range 0 (length (patches_in bytes)) k).0 m).1))))

  results_closest : ClosestPanels bytes v (results (call_on bytes s c before))
  unfolding call_picture call_counts call_patch_cells call_unlit call_lit unlit_lists counts
  results_closest =
      record {
        cells =
            λ i j h k.
            subst (CellShows v (patches_in bytes) i j) (sym (at i j h k))
            (beside_right v accepted.view accepted.axes sound (window_column c i) (window_row c j));
        cells_only = λ i j n h k s. beside_only v accepted.view accepted.axes sound (window_column c i) (window_row c j) s ∙ sym (at i j h k);
        whole = picture_length v.eye (picture_width v) (picture_height v) (tile_line v.camera) (patches_in bytes);
        counted = λ n h. counts_at (call_picture (call_on bytes s c before)) n h;
        entries =
            length-map (range 0 count_entries) (λ (n : ℕ). occurrences n (call_picture (call_on bytes s c before)))
            ∙ range_length 0 count_entries;
        summed = picture_total v.eye (picture_width v) (picture_height v) (tile_line v.camera) (patches_in bytes)
            (panel_bounded (decode bytes) accepted.scene.panels);
        booked = entry;
        patch_entries = patch_entries_lem v.eye (picture_width v) (picture_height v) (tile_line v.camera) (patches_in bytes);
        booked_first = λ i j. beside_has v accepted.view accepted.axes sound (window_column c i) (window_row c j);
        booked_some =
            λ i j hi hj f.
            booked_some_lem v.eye (tile_line v.camera i j) (patches_in bytes)
            (λ e. f (at i j hi hj ∙ e));
        booked_once = λ i j. booked_once_lem v.eye (tile_line v.camera i j) (patches_in bytes);
        booked_panel =
            λ i j k hi hj hk t.
            at i j hi hj ∙ booked_panel_lem v.eye (tile_line v.camera i j) (patches_in bytes) k hk t;
        panel_sum = λ n one h. counts_at (call_picture (call_on bytes s c before)) n h ∙ entries_sum n one;
        rows = unlit_row;
        row_count = rows_length row_length cell_row (λ k. row_length_lem (picture_width v) _) 0 (picture_height v) ∙ mul_comm row_length (picture_height v);
        lit = λ i j h k. ap (λ (words : List ℕ). lit_at words i) (map_row_lem j k) ∙ map_bit (picture_width v) (none_at j) i h;
        word_count = map_count;
        same = map_same;
        lit_in_row = lit_in_row_lem;
        first_in_row = first_in_row_lem;
      }

module _
    (first_bytes second_bytes : List ℕ)
    (s : Station)
    (c : Camera)
    (before₁ before₂ : Lent)
    (chosen : ℕ → Bool)
    (taken : TakenAway chosen (patches_in first_bytes) (patches_in second_bytes))
    (accepted : AcceptedCall (call_on first_bytes s c before₁))
  where
    taken_away :
        ChosenTakenAway first_bytes chosen (view_at s c) (results (call_on first_bytes s c before₁))
        (results (call_on second_bytes s c before₂))
    unfolding call_picture call_counts
    taken_away =
        let v = view_at s c in
        let first = patches_in first_bytes in
        let second = patches_in second_bytes in
        let same = pictures_counts chosen first second taken v.eye (picture_width v) (picture_height v) (tile_line v.camera) in
        record {
          equal = (λ e. same.0 (sym e), λ f. sym (same.1 f));
          closest =
              λ i j h k.
              subst (CellShows v first i j) (sym (at first_bytes s c before₁ accepted i j h k))
              (beside_right v accepted.view accepted.axes (table_sound accepted.scene) (window_column c i) (window_row c j));
          differ =
              λ i j h k.
              let d = cell_differs chosen first second taken v.eye (picture_width v) (picture_height v) (tile_line v.camera) i j h k in
              (λ f. d.0 (λ e. f (sym e)), λ t e. d.1 t (sym e));
          shown =
              λ i j h k t.
              subst (CellShows v (kept chosen first) i j)
              (sym (cell_shows chosen first second taken v.eye (picture_width v) (picture_height v) (tile_line v.camera) i j h k))
              (beside_right v accepted.view accepted.axes (kept_sound chosen (table_sound accepted.scene)) (window_column c i) (window_row c j));
        }

module _
    (first_bytes second_bytes : List ℕ) (s : Station) (c : Camera) (before₁ before₂ : Lent)
    (first_accepted : AcceptedCall (call_on first_bytes s c before₁))
    (second_accepted : AcceptedScene second_bytes)
    (same : SameCover (patches_in first_bytes) (patches_in second_bytes))
  where
    -- all four go by what the cells show
    same_survey : SameSurvey (results (call_on first_bytes s c before₁)) (results (call_on second_bytes s c before₂))
    unfolding call_picture call_counts call_unlit call_lit picture
    same_survey =
        let v = view_at s c in
        let window = same_cells v first_accepted.view first_accepted.axes (table_sound first_accepted.scene) (table_sound second_accepted) same in
        let shown : cell_panel v.eye (tile_line c) (patches_in first_bytes) ≡ cell_panel v.eye (tile_line c) (patches_in second_bytes) =
        λ t i j. window t (window_column c i) (window_row c j) in
        record {
          pictures = ap (cells (picture_width v) (picture_height v)) shown;
          panel_counts = ap (λ (f : ℕ → ℕ → ℕ). counts (cells (picture_width v) (picture_height v) f)) shown;
          unlit_lists = ap (unlit_lists (picture_width v) (picture_height v)) shown;
          lit_maps = ap (lit_map (picture_width v) (picture_height v)) shown;
        }

-- Demand 2.
pub closest_panels_lem :
    {bytes : List ℕ} {s : Station} {c : Camera} {before after : Lent} {result : ℕ} →
    Surveyed bytes s c before after result →
    result ≡ 0 →
    ClosestPanels bytes (view_at s c) after
closest_panels_lem {bytes} {s} {c} {before} h e =
    subst (ClosestPanels bytes (view_at s c)) (sym (accepted_leaves h e)) (results_closest bytes s c before (accepted h e))

-- the equations and demand 2
pub closest_surveyed :
    {bytes : List ℕ} {s : Station} {c : Camera} {before after : Lent} {result : ℕ} →
    Surveyed bytes s c before after result →
    ClosestSurveyed bytes s c before after result
closest_surveyed h = record { surveyed = h; closest_panels = closest_panels_lem h }

-- two calls with one camera
module _
    {first_bytes second_bytes : List ℕ} {s₁ s₂ : Station} {c : Camera} {before₁ after₁ before₂ after₂ : Lent} {result₁ result₂ : ℕ}
    (h : Surveyed first_bytes s₁ c before₁ after₁ result₁)
    (k : Surveyed second_bytes s₂ c before₂ after₂ result₂)
  where
    -- the second leaves what it would leave from the first's station, where the two have one eye
    second_leaves : eye_of s₁ ≡ eye_of s₂ → result₂ ≡ 0 → results (call_on second_bytes s₁ c before₂) ≡ after₂
    second_leaves eye f = results_by_eye second_bytes s₁ s₂ c before₂ eye ∙ sym (accepted_leaves k f)

    -- Demand 3.
    pub chosen_panels_taken_away : DemandThree first_bytes second_bytes s₁ s₂ c after₁ after₂ result₁ result₂
    chosen_panels_taken_away chosen eye e f taken =
        subst₂ (ChosenTakenAway first_bytes chosen (view_at s₁ c)) (sym (accepted_leaves h e)) (second_leaves eye f)
        (taken_away first_bytes second_bytes s₁ c before₁ before₂ chosen taken (accepted h e))

    -- Two cuttings of one ring.
    pub cuttings_surveyed : TwoCuttings first_bytes second_bytes s₁ s₂ after₁ after₂ result₁ result₂
    cuttings_surveyed eye e f same =
        subst₂ SameSurvey (sym (accepted_leaves h e)) (second_leaves eye f)
        (same_survey first_bytes second_bytes s₁ c before₁ before₂ (accepted h e) (accepted k f).scene same)

    -- both calls, demand 3 and two cuttings
    pub pair_surveyed : PairSurveyed first_bytes second_bytes s₁ s₂ c before₁ after₁ before₂ after₂ result₁ result₂
    pair_surveyed =
        record {
          first_call = closest_surveyed h;
          second_call = closest_surveyed k;
          demand_three = chosen_panels_taken_away;
          two_cuttings = cuttings_surveyed;
        }
