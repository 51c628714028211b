-- What questions 3, 6 and 8 say of each patch of the table.
use mathlib.Core.Bool.{Bool, ◌&&◌}
use mathlib.Core.List.{List, map, Memᴰ}
use Prim.Native.Nat.{ℕ, ◌<◌}
use lib.Dec.{T}
use lib.ListN.{length, length-map}
use Rattle.model.specs.Lists.{every}
use Rattle.model.specs.Patch.{Patch, corners_counted, flat, strictly_convex, Proper}
use Rattle.model.specs.Format.{NodeRecord, PatchRecord, Scene, decode, patch_of, patch_table, patch_numbered}
use Rattle.model.specs.Questions.{point_in_range, plane_in_range, coordinates_in_range, runs_follow, patch_runs_follow, corner_runs_follow, runs_proper, patches_proper}
use Rattle.model.specs.Accepted.{AcceptedScene}
use Rattle.model.specs.Removal.{kept}
use Rattle.model.proofs.Tests.{both, every_true}
use Rattle.model.proofs.Ranges.{get_d_member, of_map}
use Rattle.model.proofs.Kept.{kept_members}
use Rattle.model.proofs.Runs.{part_member}
use Rattle.model.proofs.Sizes.{parts_within}
use Rattle.model.proofs.Alike.{Ranged, Sound}

corners_counted_lem : (s : Scene) → T (corner_runs_follow s) → (p : Patch) → Memᴰ p (patch_table s) → T (corners_counted p)
unfolding corner_runs_follow
corners_counted_lem s t =
    (every_true corners_counted (patch_table s)).0
    ((both (runs_follow 0 (length s.corners) (map (λ (p : PatchRecord). p.corner_run) s.patches)) (every corners_counted (patch_table s))).0 t).1

patch_proper_lem : (s : Scene) → T (patches_proper s) → (p : Patch) → Memᴰ p (patch_table s) → T (flat p) × T (strictly_convex p)
unfolding patches_proper
patch_proper_lem s t p m = (both (flat p) (strictly_convex p)).0 ((every_true (λ (p : Patch). flat p && strictly_convex p) (patch_table s)).0 t p m)

pub table_proper : (s : Scene) → T (runs_proper s) → T (patches_proper s) → (p : Patch) → Memᴰ p (patch_table s) → Proper p
unfolding runs_proper
table_proper s runs patches p m =
    let t = patch_proper_lem s patches p m in
    record {
      counted = corners_counted_lem s ((both (patch_runs_follow s) (corner_runs_follow s)).0 runs).1 p m;
      is_flat = t.0;
      is_convex = t.1;
    }

pub table_ranged : (s : Scene) → T (coordinates_in_range s) → (p : Patch) → Memᴰ p (patch_table s) → Ranged p
unfolding coordinates_in_range patch_table patch_of
table_ranged s t =
    of_map Ranged (patch_of s.corners) s.patches
    (λ r m.
    record {
      corners = λ {c} k.
          parts_within 10000 c ((every_true point_in_range s.corners).0 corners c (part_member r.corner_run s.corners k));
    })
  where
    corners : T (every point_in_range s.corners)
    corners = ((both (every (λ (n : NodeRecord). plane_in_range n.plane) s.nodes) (every point_in_range s.corners)).0 t).1

-- a patch by its number is in the table
pub numbered_listed : (s : Scene) (k : ℕ) → k < length s.patches → Memᴰ (patch_numbered s k) (patch_table s)
unfolding patch_table patch_numbered
numbered_listed s k h = get_d_member (patch_table s) k _ (rw (length-map s.patches (patch_of s.corners)) h)

pub table_sound : {bytes : List ℕ} → AcceptedScene bytes → Sound (patch_table (decode bytes))
table_sound {bytes} h =
    record { proper = table_proper (decode bytes) h.runs h.patches; ranged = table_ranged (decode bytes) h.coordinates }

-- so are those of the panels kept
pub kept_sound : (chosen : ℕ → Bool) {ps : List Patch} → Sound ps → Sound (kept chosen ps)
kept_sound chosen {ps} h =
    record {
      proper = λ p m. h.proper p ((kept_members chosen ps p).0 m).0;
      ranged = λ p m. h.ranged p ((kept_members chosen ps p).0 m).0;
    }
