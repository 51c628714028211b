-- Some corners of the table.
use mathlib.Core.Path.{◌≡◌, refl, sym, ap, ◌∙◌, subst}
use mathlib.Core.List.{List, map}
use Prim.Native.Nat.{ℕ, ◌+◌, ◌≤◌, ◌<◌}
use native.Mathlib.Nat.{zero-add}
use borrow.Author.Count.{below_more}
use lib.Dec.{T}
use lib.ListN.{length, get_or, get_or-map, set, length-set, length-map}
use lib.Seq.{get_or-set_same, get_or-set_other}
use native.Mathlib.Omega.{arith}
use Rattle.model.specs.Lists.{range}
use Rattle.model.specs.Vector.{Vec, origin}
use Rattle.model.specs.Patch.{lies_on, flat, strictly_convex}
use Rattle.model.specs.Format.{decode, patch_numbered}
use Rattle.model.specs.Format as format
use Rattle.model.specs.Questions.{coordinates_in_range}
use Rattle.model.proofs.Ranges.{all_by_number}
use Rattle.model.proofs.Tables.{same_table}
use Rattle.format.proofs.InRange.{corner_within, bounded}
use Rattle.geometry.specs.declared.Vector.{Vector}
use Rattle.geometry.specs.Machine.{vec_of}
use Rattle.format.specs.declared.layout.Layout.{Layout}
use Rattle.format.specs.declared.records.PatchRecord.{PatchRecord}
use Rattle.format.specs.Machine.{patch_record_of}
use Rattle.format.specs.Layout.{LaidOut, RunsInside, Inside, patch_number, corner_number}
use Rattle.format.proofs.Decoded.{table_patch, patch_numbered_lem, patch_corners}
use Rattle.polygons.specs.Tests.{patch_proper}
use Rattle.small_polygons.specs.Few.{FewBounded, nowhere, patch_of_few}
use Rattle.convexity.specs.Cornered.{corners_from}

panel_free : (m : ℕ) (corners : List Vec) → patch_proper (record { panel = 0; corners = corners }) ≡ patch_proper (record { panel = m; corners = corners })
unfolding lies_on flat strictly_convex
panel_free m corners = refl

-- while the corners are read: there is a place for each, and those before place k are the table's
pub record Read (bytes : List ℕ) (l : Layout) (first n : ℕ) (corners : List Vector) (k : ℕ) : Type 0 where
  pub places : length corners ≡ n
  pub each : (j : ℕ) → j < k → vec_of (get_or corners j nowhere) ≡ corner_number bytes l (first + j)

module _ {bytes : List ℕ} {l : Layout} {first n : ℕ} {corners : List Vector} where
  pub read_more : {k : ℕ} {v : Vector} → Read bytes l first n corners k → k < n → vec_of v ≡ corner_number bytes l (first + k) → Read bytes l first n (set corners k v) (k + 1)
  read_more {k} {v} r h e =
      record {
        places = length-set corners k v ∙ r.places;
        each = below_more (λ (j : ℕ). vec_of (get_or (set corners k v) j nowhere) ≡ corner_number bytes l (first + j)) k
            (λ j b. ap vec_of (get_or-set_other corners k j v nowhere (omega arith)) ∙ r.each j b)
            (ap vec_of (get_or-set_same corners k v nowhere (omega (arith, r.places))) ∙ e);
      }

  module _ {k : ℕ} (r : Read bytes l first n corners k) (done : n ≤ k) where
    pub read_bounded : LaidOut bytes l → T (coordinates_in_range (decode bytes)) → first + n ≤ l.corners → 3 ≤ n → n ≤ 4 → FewBounded corners
    read_bounded laid coordinates inside three four =
        record {
          three = omega (arith, r.places);
          four = omega (arith, r.places);
          each = λ j b.
              let h : j < n = omega (arith, r.places) in
              bounded (r.each j (omega arith)) (corner_within laid coordinates (first + j) (omega arith));
        }

    pub few_in : patch_of_few corners ≡ corners_from bytes l first n
    few_in = λ i. record { panel = 0; corners = are i }
      where
        are : map vec_of corners ≡ map (corner_number bytes l) (range first n)
        are =
            sym (all_by_number (map vec_of corners) origin)
            ∙ ap (λ (m : ℕ). map (λ (k : ℕ). get_or (map vec_of corners) k origin) (range 0 m)) (length-map corners vec_of ∙ r.places)
            ∙ same_table (λ (k : ℕ). get_or (map vec_of corners) k origin) (corner_number bytes l) 0 first n
            (λ j b. get_or-map vec_of corners (0 + j) nowhere ∙ ap (λ (m : ℕ). vec_of (get_or corners m nowhere)) (zero-add j) ∙ r.each j (omega arith))

-- the corners of a patch by its number, where it has so many
module _ {bytes : List ℕ} {l : Layout} (laid : LaidOut bytes l) (runs : RunsInside bytes l) {k : ℕ} (h : k < l.patches) {p : PatchRecord}
    (e : patch_record_of p ≡ patch_number bytes l k) {n : ℕ} (many : p.corners.count ≡ n) where
  pub run_inside : p.corners.first + n ≤ l.corners
  run_inside =
      omega (arith, (subst (λ (r : format.PatchRecord). Inside l.corners r.corner_run) (sym e) (runs.corners k h)).inside)

  pub run_numbered : patch_proper (corners_from bytes l p.corners.first n) ≡ patch_proper (patch_numbered (decode bytes) k)
  run_numbered =
      panel_free p.panel _
      ∙ ap patch_proper
      ((λ i. record { panel = p.panel; corners = map (corner_number bytes l) (range p.corners.first (sym many i)) })
      ∙ ap (table_patch bytes l) e
      ∙ sym (patch_numbered_lem laid k h ∙ patch_corners laid k (runs.corners k h)))
