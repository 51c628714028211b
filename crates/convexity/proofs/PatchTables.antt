-- Question 8 over the table of patches, and what questions 3 and 6 tell of each patch.
use mathlib.Core.Path.{◌≡◌, sym, ap, ◌∙◌, subst}
use mathlib.Core.Bool.{Bool}
use mathlib.Core.List.{List, map}
use Prim.Native.Nat.{ℕ, ◌+◌, ◌<◌}
use native.Mathlib.Nat.{zero-add}
use native.Mathlib.Omega.{arith}
use lib.ListN.{length}
use Rattle.std.specs.List.{list_all, range_with_len}
use Rattle.model.specs.Lists.{every, range}
use Rattle.model.specs.Vector.{origin}
use Rattle.model.specs.Patch as model
use Rattle.model.specs.Format.{decode, patch_numbered}
use Rattle.model.specs.Format as format
use Rattle.model.specs.Questions.{patches_proper}
use Rattle.model.proofs.Ranges.{range_at}
use Rattle.format.specs.declared.layout.Layout.{Layout}
use Rattle.format.specs.declared.patch.Patch.{Patch}
use Rattle.format.specs.Layout.{LaidOut, patch_number, corner_number}
use Rattle.format.specs.Patch.{PatchIs, corner_of, patch_of}
use Rattle.model.specs.Bounds.{VecWithin}
use Rattle.model.proofs.Tables.{length_table, same_table}
use Rattle.format.proofs.Decoded.{table_patch, patch_table_lem, patch_numbered_lem, patch_corners}
use Rattle.format.proofs.Ranges.{all_numbered}
use Rattle.format.proofs.InRange.{corner_within}
use Rattle.convexity.specs.Cornered.{Cornered}
use Rattle.polygons.specs.Bounds.{PatchBounded}
use Rattle.polygons.specs.Tests.{patch_proper}
use Rattle.polygons.proofs.Corners.{corner_in, count_in}

module _ {bytes : List ℕ} {l : Layout} (laid : LaidOut bytes l) where
  abbrev listed : ℕ → model.Patch
  listed k = format.patch_of (decode bytes).corners (patch_number bytes l k)

  patches_in_turn : patches_proper (decode bytes) ≡ every patch_proper (map (patch_numbered (decode bytes)) (range 0 l.patches))
  unfolding patches_proper
  patches_in_turn =
      ap (every patch_proper)
      (patch_table_lem laid
      ∙ same_table listed (patch_numbered (decode bytes)) 0 0 l.patches
      (λ k h. ap listed (zero-add k) ∙ sym (patch_numbered_lem laid k h) ∙ ap (patch_numbered (decode bytes)) (sym (zero-add k))))

  pub patches_asked :
      {asked : Bool} →
      asked ≡ list_all (λ (k : ℕ). patch_proper (patch_numbered (decode bytes) k)) (range_with_len 0 l.patches) →
      asked ≡ patches_proper (decode bytes)
  patches_asked a = all_numbered patch_proper (patch_numbered (decode bytes)) 0 l.patches a patches_in_turn

-- a patch in hand has the corners that its record's run names
module _ {bytes : List ℕ} {l : Layout} (c : Cornered bytes l) {k : ℕ} {p : Patch} (h : k < l.patches)
    (is : PatchIs (patch_numbered (decode bytes) k) p)
  where
    abbrev run : format.Run
    run = (patch_number bytes l k).corner_run

    from_table : patch_of p ≡ table_patch bytes l (patch_number bytes l k)
    from_table =
        is.value ∙ patch_numbered_lem c.laid k h ∙ patch_corners c.laid k (c.inside.corners k h)

    run_count : p.count ≡ run.count
    run_count =
        sym (count_in p)
        ∙ ap (λ (q : model.Patch). length q.corners) from_table
        ∙ length_table (corner_number bytes l) run.first run.count

    run_corner : (j : ℕ) → j < p.count → corner_of p j ≡ corner_number bytes l (run.first + j)
    run_corner j b =
        sym (corner_in p j b)
        ∙ ap (λ (q : model.Patch). model.corner q j) from_table
        ∙ range_at (corner_number bytes l) run.first run.count j origin (omega (arith, run_count))

    pub patch_bounded : PatchBounded p
    patch_bounded =
        record {
          three = is.three;
          eight = is.eight;
          corners_within = λ j b. subst (VecWithin 10000) (sym (run_corner j b))
              (corner_within c.laid c.coordinates (run.first + j) (omega (arith, run_count, (c.inside.corners k h).inside)));
        }
