-- Question 6 over the tables, and what it tells: the runs are inside, and each patch has 3 to 8 corners.
use mathlib.Core.Path.{◌≡◌, refl, sym, ap, ap₂, ◌∙◌}
use mathlib.Core.Bool.{true}
use mathlib.Core.List.Memᴰ
use mathlib.Core.List.{List, map, map-map}
use Prim.Native.Nat.{ℕ, ◌+◌, ◌*◌, ◌<◌}
use native.Mathlib.Omega.{arith}
use lib.Dec.{leb}
use lib.ListN.{length}
use borrow.Author.Tests.{leb-true}
use Rattle.model.specs.Lists.{range, every}
use Rattle.model.specs.Patch.{Patch, corners_counted}
use Rattle.model.specs.Format.{Run, NodeRecord, PatchRecord, Scene, u16_at, node_at, patch_at, decode, patch_of}
use Rattle.model.specs.Questions.{within, runs_follow, patch_runs_follow, corner_runs_follow, runs_proper}
use Rattle.format.specs.declared.layout.Layout.{Layout}
use Rattle.format.specs.Layout.{LaidOut, Inside, RunsInside, node_number, patch_number, corner_number}
use Rattle.model.proofs.Tables.{length_table, same_table}
use Rattle.format.proofs.Decoded.{patch_count, corner_count, patch_table_lem, patch_corners}
use Rattle.scene.specs.Tests.{run_at, corners_follow, all_counted}
use Rattle.model.proofs.Tests.{is_true, both_true}
use Rattle.model.proofs.Ranges.{in_range}
use Rattle.model.proofs.Runs.{runs_between}
use Rattle.model.proofs.Loops.{range_same, every_number, each}
use Rattle.format.proofs.Ranges.{every_of_range, all_numbered}

-- ---- runs that follow each other end where the table ends
runs_end : (run : ℕ → Run) (end n : ℕ) → runs_follow 0 end (map run (range 0 n)) ≡ true → (k : ℕ) → k < n → Inside end (run k)
runs_end run end n t k h =
    let m = Memᴰ.map run ((in_range 0 n k).1 (omega arith, omega arith)) in
    record { inside = (runs_between end 0 (map run (range 0 n)) (is_true t) (run k) m).ends }

-- ---- the runs of the tables
module _ {bytes : List ℕ} {l : Layout} (laid : LaidOut bytes l) where
  node_run : (k : ℕ) → (node_number bytes k).patch_run ≡ run_at bytes (54 + 26 * k)
  unfolding node_at
  node_run k = λ i.
      record { first = u16_at bytes (sum_first i); count = u16_at bytes (sum_count i) }
    where
      sum_first : 32 + 26 * k + 22 ≡ 54 + 26 * k
      sum_first = omega arith

      sum_count : 32 + 26 * k + 24 ≡ 54 + 26 * k + 2
      sum_count = omega arith

  patch_run_lem : (k : ℕ) → (patch_number bytes l k).corner_run ≡ run_at bytes (32 + 26 * l.nodes + 2 + l.patch_size * k)
  unfolding patch_at
  patch_run_lem k = λ i.
      record { first = u16_at bytes (sum_first i); count = u16_at bytes (sum_count i) }
    where
      sum_first : 32 + 26 * l.nodes + l.patch_size * k + 2 ≡ 32 + 26 * l.nodes + 2 + l.patch_size * k
      sum_first = omega arith

      sum_count : 32 + 26 * l.nodes + l.patch_size * k + 4 ≡ 32 + 26 * l.nodes + 2 + l.patch_size * k + 2
      sum_count = omega arith

  node_runs :
      patch_runs_follow (decode bytes)
      ≡ runs_follow 0 l.patches (map (λ (k : ℕ). (node_number bytes k).patch_run) (range 0 l.nodes))
  unfolding patch_runs_follow
  node_runs =
      ap₂ (runs_follow 0) (patch_count laid)
      (ap (map (λ (n : NodeRecord). n.patch_run)) laid.nodes
      ∙ map-map (λ (n : NodeRecord). n.patch_run) (node_number bytes) (range 0 l.nodes))

  patch_runs :
      corners_follow (decode bytes)
      ≡ runs_follow 0 l.corners (map (λ (k : ℕ). (patch_number bytes l k).corner_run) (range 0 l.patches))
  patch_runs =
      ap₂ (runs_follow 0) (corner_count laid)
      (ap (map (λ (p : PatchRecord). p.corner_run)) laid.patches
      ∙ map-map (λ (p : PatchRecord). p.corner_run) (patch_number bytes l) (range 0 l.patches))

  -- as one loop reads them
  pub node_runs_read :
      runs_follow 0 l.patches (map (λ (k : ℕ). run_at bytes (54 + 26 * k)) (range 0 l.nodes))
      ≡ patch_runs_follow (decode bytes)
  node_runs_read =
      sym (node_runs
      ∙ ap (runs_follow 0 l.patches)
      (same_table (λ (k : ℕ). (node_number bytes k).patch_run) (λ (k : ℕ). run_at bytes (54 + 26 * k)) 0 0 l.nodes (λ k h. node_run (0 + k))))

  pub patch_runs_read :
      runs_follow 0 l.corners (map (λ (k : ℕ). run_at bytes (32 + 26 * l.nodes + 2 + l.patch_size * k)) (range 0 l.patches))
      ≡ corners_follow (decode bytes)
  patch_runs_read =
      sym (patch_runs
      ∙ ap (runs_follow 0 l.corners)
      (same_table (λ (k : ℕ). (patch_number bytes l k).corner_run) (λ (k : ℕ). run_at bytes (32 + 26 * l.nodes + 2 + l.patch_size * k)) 0 0 l.patches (λ k h. patch_run_lem (0 + k))))

  corners_inside : corners_follow (decode bytes) ≡ true → (k : ℕ) → k < l.patches → Inside l.corners (patch_number bytes l k).corner_run
  corners_inside t = runs_end (λ (k : ℕ). (patch_number bytes l k).corner_run) l.corners l.patches (sym patch_runs ∙ t)

  -- ---- the corner counts
  patch_length :
      (k : ℕ) →
      Inside l.corners (patch_number bytes l k).corner_run →
      length (patch_of (decode bytes).corners (patch_number bytes l k)).corners ≡ (patch_number bytes l k).corner_run.count
  patch_length k h =
      ap (λ (p : Patch). length p.corners) (patch_corners laid k h)
      ∙ length_table (corner_number bytes l) (patch_number bytes l k).corner_run.first (patch_number bytes l k).corner_run.count

  pub counts_asked :
      corners_follow (decode bytes) ≡ true →
      every (λ (k : ℕ). within 3 8 (patch_number bytes l k).corner_run.count) (range 0 l.patches) ≡ all_counted (decode bytes)
  counts_asked t =
      let patch : ℕ → Patch = λ k. patch_of (decode bytes).corners (patch_number bytes l k) in
      range_same (λ (k : ℕ). within 3 8 (patch_number bytes l k).corner_run.count) (λ (k : ℕ). corners_counted (patch k)) 0 l.patches
      (λ k a b. ap (within 3 8) (sym (patch_length k (corners_inside t k (omega arith)))))
      ∙ sym (every_of_range (λ (k : ℕ). corners_counted (patch k)) 0 l.patches)
      ∙ all_numbered corners_counted patch 0 l.patches refl (ap (every corners_counted) (patch_table_lem laid))

-- ---- what a yes tells
follow_yes : (s : Scene) → corner_runs_follow s ≡ true → (corners_follow s ≡ true) × (all_counted s ≡ true)
unfolding corner_runs_follow
follow_yes s t = both_true (corners_follow s) (all_counted s) t

proper_yes : (s : Scene) → runs_proper s ≡ true → (patch_runs_follow s ≡ true) × (corner_runs_follow s ≡ true)
unfolding runs_proper
proper_yes s t = both_true (patch_runs_follow s) (corner_runs_follow s) t

module _ {bytes : List ℕ} {l : Layout} (laid : LaidOut bytes l) where
  abbrev corners_of : ℕ → ℕ
  corners_of k = (patch_number bytes l k).corner_run.count

  count_within :
      corner_runs_follow (decode bytes) ≡ true →
      (k : ℕ) →
      k < l.patches →
      (leb 3 (corners_of k) ≡ true) × (leb (corners_of k) 8 ≡ true)
  count_within t k h =
      let corners = follow_yes (decode bytes) t in
      both_true (leb 3 (corners_of k)) (leb (corners_of k) 8)
      (each (every_number (λ (k : ℕ). within 3 8 (corners_of k)) l.patches) (counts_asked laid corners.0 ∙ corners.1) k h)

  pub runs_inside : runs_proper (decode bytes) ≡ true → RunsInside bytes l
  runs_inside t =
      let runs = proper_yes (decode bytes) t in
      record {
        patches =
            runs_end (λ (k : ℕ). (node_number bytes k).patch_run) l.patches l.nodes (sym (node_runs laid) ∙ runs.0);
        corners = corners_inside laid (follow_yes (decode bytes) runs.1).0;
        three = λ k h. leb-true 3 (corners_of k) (count_within runs.1 k h).0;
        eight = λ k h. leb-true (corners_of k) 8 (count_within runs.1 k h).1;
      }
