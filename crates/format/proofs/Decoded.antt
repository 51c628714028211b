-- After questions 1 and 2: how many records a scene has, and each by its number.
use mathlib.Core.Path.{◌≡◌, ap, ◌∙◌}
use mathlib.Core.List.{List, [], map, map-map}
use Prim.Native.Nat.{ℕ, ◌+◌, ◌≤◌, ◌<◌}
use lib.ListN.{length, get_or}
use Rattle.model.specs.Lists.{range}
use Rattle.model.specs.Vector.{Vec}
use Rattle.model.specs.Patch.{Patch}
use Rattle.model.specs.Format.{NodeRecord, PatchRecord, decode, inRun, patch_of, patch_table, patch_numbered}
use Rattle.format.specs.declared.layout.Layout.{Layout}
use Rattle.format.specs.Layout.{LaidOut, Inside, node_number, patch_number, corner_number}
use Rattle.model.proofs.Tables.{length_table, table_at, run_of_table}

-- the patch of a record, its corners read from the corner table
abbrev pub table_patch : List ℕ → Layout → PatchRecord → Patch
table_patch bytes l r =
    record { panel = r.panel; corners = map (corner_number bytes l) (range r.corner_run.first r.corner_run.count) }

module _ {bytes : List ℕ} {l : Layout} (laid : LaidOut bytes l) where
  pub node_count_lem : length (decode bytes).nodes ≡ l.nodes
  node_count_lem = ap length laid.nodes ∙ length_table (node_number bytes) 0 l.nodes

  pub patch_count : length (decode bytes).patches ≡ l.patches
  patch_count = ap length laid.patches ∙ length_table (patch_number bytes l) 0 l.patches

  pub corner_count : length (decode bytes).corners ≡ l.corners
  corner_count = ap length laid.corners ∙ length_table (corner_number bytes l) 0 l.corners

  pub node_at : (k : ℕ) (d : NodeRecord) → k < l.nodes → get_or (decode bytes).nodes k d ≡ node_number bytes k
  node_at k d h = ap (λ (ns : List NodeRecord). get_or ns k d) laid.nodes ∙ table_at (node_number bytes) l.nodes k d h

  pub corner_at : (k : ℕ) (d : Vec) → k < l.corners → get_or (decode bytes).corners k d ≡ corner_number bytes l k
  corner_at k d h =
      ap (λ (cs : List Vec). get_or cs k d) laid.corners ∙ table_at (corner_number bytes l) l.corners k d h

  -- the patches that a node's run names, and the corners that a patch's run names
  pub patches_in_lem :
      (a b : ℕ) →
      a + b ≤ l.patches →
      inRun (record { first = a; count = b }) (decode bytes).patches ≡ map (patch_number bytes l) (range a b)
  patches_in_lem a b h =
      ap (inRun (record { first = a; count = b })) laid.patches
      ∙ run_of_table (patch_number bytes l) l.patches a b h

  corners_in :
      (a b : ℕ) →
      a + b ≤ l.corners →
      inRun (record { first = a; count = b }) (decode bytes).corners ≡ map (corner_number bytes l) (range a b)
  corners_in a b h =
      ap (inRun (record { first = a; count = b })) laid.corners
      ∙ run_of_table (corner_number bytes l) l.corners a b h

  -- the patches with their corners
  pub patch_table_lem :
      patch_table (decode bytes)
      ≡ map (λ (k : ℕ). patch_of (decode bytes).corners (patch_number bytes l k)) (range 0 l.patches)
  unfolding patch_table
  patch_table_lem =
      ap (map (patch_of (decode bytes).corners)) laid.patches
      ∙ map-map (patch_of (decode bytes).corners) (patch_number bytes l) (range 0 l.patches)

  pub patch_numbered_lem : (k : ℕ) → k < l.patches → patch_numbered (decode bytes) k ≡ patch_of (decode bytes).corners (patch_number bytes l k)
  unfolding patch_numbered
  patch_numbered_lem k h =
      ap (λ (ps : List Patch). get_or ps k (record { panel = 0; corners = [] })) patch_table_lem
      ∙ table_at (λ (k : ℕ). patch_of (decode bytes).corners (patch_number bytes l k)) l.patches k _ h

  pub patch_corners :
      (k : ℕ) →
      Inside l.corners (patch_number bytes l k).corner_run →
      patch_of (decode bytes).corners (patch_number bytes l k) ≡ table_patch bytes l (patch_number bytes l k)
  unfolding patch_of
  patch_corners k inside = λ i.
      record {
        panel = (patch_number bytes l k).panel;
        corners =
            corners_in (patch_number bytes l k).corner_run.first (patch_number bytes l k).corner_run.count
            inside.inside i;
      }
