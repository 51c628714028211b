-- The painted rows show the closest panels: the walk is gone.
use mathlib.Core.Path.{◌≡◌, sym, ◌∙◌, ap, fun_ext}
use mathlib.Core.Bool.{Bool}
use mathlib.Core.List.{List, map, flatten, Memᴰ}
use Prim.Native.Nat.{ℕ, ◌<◌, ◌≤◌}
use native.Mathlib.Omega.{arith}
use lib.Dec.{eqb}
use lib.ListN.{length, length-map}
use lib.Seq.{ext_get_or}
use Rattle.model.specs.Lists.{range}
use Rattle.model.specs.Vector.{Vec}
use Rattle.model.specs.Patch.{Patch}
use Rattle.model.specs.Ray.{closest}
use Rattle.model.specs.Tree.{order}
use Rattle.model.specs.Format.{Scene, decode, patch_table, patch_of, patch_numbered, number_tree}
use Rattle.model.specs.Row.{row_of}
use Rattle.model.specs.Map.{map_row}
use Rattle.model.specs.Picture.{cells, picture, cell_panel, unlit_lists, lit_map}
use Rattle.model.specs.Booking.{cells_where, patch_cells}
use Rattle.model.specs.Accepted.{AcceptedScene}
use Rattle.walk.proofs.Seen.{accepted, of_walk, first_met_closest}
use Rattle.walk.proofs.Numbered.{first_has}
use Rattle.scanline.specs.Shown.{shown_after, unlit_after}
use Rattle.painting.specs.Picture.{RowsPainted}
use Rattle.conversion.specs.Booked.{Booked}
use Rattle.model.proofs.PanelSums.{patch_entries_lem, patch_entry}
use Rattle.model.proofs.PanelNumbers.{panel_positive}
use Rattle.scanline.proofs.FirstShown.{unlit_shows_0}

-- ---- the walk's patches

-- the patches of the walk, front to back
abbrev pub walked : List ℕ → Vec → List Patch
walked bytes eye = map (patch_numbered (decode bytes)) (order eye (number_tree (decode bytes)))

module _ (bytes : List ℕ) (h : AcceptedScene bytes) (eye : Vec) where
  -- every panel of the walk has a number above 0
  walked_positive : (p : Patch) → Memᴰ p (walked bytes eye) → 1 ≤ p.panel
  walked_positive =
      of_walk (decode bytes) (accepted h) eye (λ (p : Patch). 1 ≤ p.panel) (panel_positive (decode bytes) h.panels)

  -- a column shows its closest panel
  shows_closest : (ray : ℕ → Vec) (i : ℕ) → shown_after eye ray (walked bytes eye) i ≡ closest eye (ray i) (patch_table (decode bytes))
  unfolding shown_after
  shows_closest ray i = first_met_closest (decode bytes) (accepted h) eye (ray i)

  unlit_closest :
      (ray : ℕ → Vec) (i : ℕ) →
      unlit_after eye ray (walked bytes eye) i ≡ eqb (closest eye (ray i) (patch_table (decode bytes))) 0
  unlit_closest ray i =
      sym (unlit_shows_0 eye ray (walked bytes eye) walked_positive i) ∙ ap (λ (n : ℕ). eqb n 0) (shows_closest ray i)

-- The painted rows of an accepted scene are its closest panels.
module _
    {bytes : List ℕ} (h : AcceptedScene bytes) (eye : Vec) (ray : ℕ → ℕ → Vec) {width height : ℕ} {picture' unlit' lit' : List ℕ}
    (painted : RowsPainted eye ray (walked bytes eye) width height picture' unlit' lit')
  where
    pub painted_picture : picture' ≡ picture eye width height ray (patch_table (decode bytes))
    unfolding picture cells
    painted_picture =
        painted.picture_is
        ∙ ap
        (λ (f : ℕ → ℕ → ℕ). flatten (map (λ (j : ℕ). map (f j) (range 0 width)) (range 0 height)))
        (fun_ext (λ j. fun_ext (λ i. shows_closest bytes h eye (λ (k : ℕ). ray k j) i)))

    pub painted_unlit : unlit' ≡ unlit_lists width height (cell_panel eye ray (patch_table (decode bytes)))
    unfolding unlit_lists
    painted_unlit =
        painted.unlit_is
        ∙ ap
        (λ (f : ℕ → ℕ → Bool). flatten (map (λ (j : ℕ). row_of width (f j)) (range 0 height)))
        (fun_ext (λ j. fun_ext (λ i. unlit_closest bytes h eye (λ (k : ℕ). ray k j) i)))

    pub painted_lit : lit' ≡ lit_map width height (cell_panel eye ray (patch_table (decode bytes)))
    unfolding lit_map
    painted_lit =
        painted.lit_is
        ∙ ap
        (λ (f : ℕ → ℕ → Bool). flatten (map (λ (j : ℕ). map_row width (f j)) (range 0 height)))
        (fun_ext (λ j. fun_ext (λ i. unlit_closest bytes h eye (λ (k : ℕ). ray k j) i)))

-- The cells booked to the first patch met are those of the patch that has them.
pub painted_booked :
    {bytes : List ℕ} → AcceptedScene bytes → (eye : Vec) (ray : ℕ → ℕ → Vec) {width height : ℕ} {booked : List ℕ} →
    length booked ≡ length (decode bytes).patches →
    Booked eye ray (patch_numbered (decode bytes)) (order eye (number_tree (decode bytes))) width booked height →
    booked ≡ patch_cells eye width height ray (patch_table (decode bytes))
unfolding patch_table
painted_booked {bytes} h eye ray {width} {height} {booked} e cells =
    let s : Scene = decode bytes in
    let many : length (patch_table s) ≡ length s.patches = length-map s.patches (patch_of s.corners) in
    ext_get_or 0 _ _ (e ∙ sym (patch_entries_lem eye width height ray (patch_table s) ∙ many))
    (λ n l.
    let k : n < length s.patches = omega (arith, e) in
    cells.each n l
    ∙ ap (cells_where width height) (fun_ext (λ i. fun_ext (λ j. first_has s (accepted h) eye (ray i j) n k)))
    ∙ sym (patch_entry eye width height ray (patch_table s) n (omega (arith, many))))
