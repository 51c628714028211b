-- Demand 3 without code: what is seen when the patches of chosen panels are taken away.
use mathlib.Core.Path.{◌≡◌, refl, sym, subst, ◌∙◌}
use mathlib.Core.Logic.{◌↔◌}
use mathlib.Core.Bool.{Bool, ◌&&◌}
use mathlib.Core.List.{List}
use Prim.Native.Nat.{ℕ, ◌+◌, ◌*◌, ◌<◌, ◌≤◌}
use native.Mathlib.Omega.{arith}
use lib.Dec.{T, leb, leb→le}
use lib.ListN.{get_or}
use Rattle.model.specs.Lists.{occurrences}
use Rattle.model.specs.Vector.{Vec}
use Rattle.model.specs.Patch.{Patch}
use Rattle.model.specs.Ray.{closest, IsClosest, none_met, shows}
use Rattle.model.specs.Format.{highest_panel}
use Rattle.model.specs.Picture.{picture, cell_panel, counts, count_entries}
use Rattle.model.specs.Removal.{is_chosen, kept, TakenAway}
use Rattle.model.proofs.Tests.{both, not_failing}
use Rattle.model.proofs.Closest.{closest_right, closest_part, closest_members}
use Rattle.model.proofs.Cells.{cells_equal, occurrences_none}
use Rattle.model.proofs.Counts.{counts_at}
use Rattle.model.proofs.Pictures.{picture_at}
use Rattle.model.proofs.Kept.{kept_members, taken_members}

-- ---- what a ray sees

module _ (chosen : ℕ → Bool) (eye d : Vec) where
  -- what is kept never shows a chosen panel
  kept_unchosen : (ps : List Patch) → T (is_chosen chosen (closest eye d (kept chosen ps))) → ⊥
  kept_unchosen ps = go (closest_right eye d (kept chosen ps))
    where
      go : {n : ℕ} → IsClosest eye d (kept chosen ps) n → T (is_chosen chosen n) → ⊥
      go (none_met f) t = t
      go (shows p m s near low) t = ((kept_members chosen ps p).0 m).1 t

  -- where no chosen panel shows, what is kept shows the same
  kept_shows :
      (ps : List Patch) →
      (T (is_chosen chosen (closest eye d ps)) → ⊥) →
      closest eye d ps ≡ closest eye d (kept chosen ps)
  kept_shows ps f =
      closest_part eye d ps (kept chosen ps)
      (λ p m e. (kept_members chosen ps p).1 (m, λ t. f (subst (λ (n : ℕ). T (is_chosen chosen n)) e t)))
      (λ p m. ((kept_members chosen ps p).0 m).0)

  module _ (first second : List Patch) (taken : TakenAway chosen first second) where
    -- the second list shows the closest of the panels kept, among the first's patches
    second_shows_lem : closest eye d second ≡ closest eye d (kept chosen first)
    second_shows_lem =
        closest_members eye d second (kept chosen first) (λ p. (taken_members chosen first second taken p).0)
        (λ p. (taken_members chosen first second taken p).1)

    -- and shows the same as the first exactly where the first shows no chosen panel
    second_same : (closest eye d second ≡ closest eye d first) ↔ (T (is_chosen chosen (closest eye d first)) → ⊥)
    second_same = (
      λ e t. kept_unchosen first (subst (λ (n : ℕ). T (is_chosen chosen n)) (sym e ∙ second_shows_lem) t),
      λ f. second_shows_lem ∙ sym (kept_shows first f),
    )

-- ---- what a picture shows

pub chosen_counted : (chosen : ℕ → Bool) (n : ℕ) → T (is_chosen chosen n) → n < count_entries
chosen_counted chosen n t =
    let s = (both (leb 1 n && leb n highest_panel) (chosen n)).0 t in
    let h : n ≤ highest_panel = leb→le n highest_panel ((both (leb 1 n) (leb n highest_panel)).0 s.0).1 in
    omega arith

module _
    (chosen : ℕ → Bool) (first second : List Patch) (taken : TakenAway chosen first second)
    (eye : Vec) (width height : ℕ) (direction : ℕ → ℕ → Vec)
  where
    abbrev before : List ℕ
    before = picture eye width height direction first

    abbrev after : List ℕ
    after = picture eye width height direction second

    ray_same :
        (i j : ℕ) →
        (closest eye (direction i j) second ≡ closest eye (direction i j) first)
        ↔ (T (is_chosen chosen (closest eye (direction i j) first)) → ⊥)
    ray_same i j = second_same chosen eye (direction i j) first second taken

    -- the pictures are equal exactly when no cell of the first shows a chosen panel
    pictures_same :
        (after ≡ before)
        ↔ ((i j : ℕ) → i < width → j < height → T (is_chosen chosen (closest eye (direction i j) first)) → ⊥)
    unfolding picture
    pictures_same =
        let equal = cells_equal width height (cell_panel eye direction second) (cell_panel eye direction first) in
        (λ e i j h k. (ray_same i j).0 (equal.0 e i j h k), λ f. equal.1 (λ i j h k. (ray_same i j).1 (f i j h k)))

    -- that is, when no chosen panel's number stands in the first
    pub pictures_counted : (after ≡ before) ↔ ((n : ℕ) → T (is_chosen chosen n) → occurrences n before ≡ 0)
    unfolding picture
    pictures_counted =
        let unseen = occurrences_none width height (cell_panel eye direction first) in (
          λ e n t. (unseen n).1 (λ i j h k q. pictures_same.0 e i j h k (rw q t)),
          λ f. pictures_same.1 (λ i j h k t. (unseen (closest eye (direction i j) first)).0 (f _ t) i j h k refl),
        )

    -- that is, when every chosen panel's count is 0
    pub pictures_counts : (after ≡ before) ↔ ((n : ℕ) → T (is_chosen chosen n) → get_or (counts before) n 0 ≡ 0)
    pictures_counts = (
      λ e n t. counts_at before n (chosen_counted chosen n t) ∙ pictures_counted.0 e n t,
      λ f. pictures_counted.1 (λ n t. sym (counts_at before n (chosen_counted chosen n t)) ∙ f n t),
    )

    module _ (i j : ℕ) (i_in : i < width) (j_in : j < height) where
      -- a cell stays exactly where the first picture shows no chosen panel
      cell_same :
          (get_or after (j * width + i) 0 ≡ get_or before (j * width + i) 0)
          ↔ (T (is_chosen chosen (get_or before (j * width + i) 0)) → ⊥)
      cell_same =
          rw (
            picture_at eye width height direction first i j i_in j_in,
            picture_at eye width height direction second i j i_in j_in,
          ) (ray_same i j)

      -- and differs exactly where it shows one
      pub cell_differs :
          (get_or after (j * width + i) 0 ≡ get_or before (j * width + i) 0 → ⊥)
          ↔ T (is_chosen chosen (get_or before (j * width + i) 0))
      cell_differs = (
        λ f. not_failing (is_chosen chosen (get_or before (j * width + i) 0)) (λ g. f (cell_same.1 g)),
        λ t e. cell_same.0 e t,
      )

      -- there, as everywhere, the second shows the closest of the panels kept, among the first's patches
      pub cell_shows : get_or after (j * width + i) 0 ≡ closest eye (direction i j) (kept chosen first)
      cell_shows =
          picture_at eye width height direction second i j i_in j_in
          ∙ second_shows_lem chosen eye (direction i j) first second taken
