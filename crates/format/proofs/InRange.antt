-- What question 3 tells: every coordinate is at most 10,000 in size.
use mathlib.Core.Path.{◌≡◌, sym, subst}
use mathlib.Core.Bool.{Bool, ◌&&◌}
use mathlib.Core.List.{List}
use Prim.Native.Nat.{ℕ, ◌<◌}
use lib.Dec.{T}
use Rattle.integer.specs.Magnitude.{Within}
use Rattle.model.specs.Lists.{every}
use Rattle.model.specs.Vector.{Vec, Plane, origin}
use Rattle.model.specs.Format.{NodeRecord, decode}
use Rattle.model.specs.Questions.{point_in_range, plane_in_range, coordinates_in_range}
use Rattle.model.proofs.Tests.{both, every_true}
use Rattle.model.proofs.Sizes.{parts_within}
use Rattle.model.proofs.Ranges.{get_d_member}
use Rattle.geometry.specs.declared.Vector.{Vector}
use Rattle.geometry.specs.Machine.{vec_of, Bounded}
use Rattle.format.specs.declared.layout.Layout.{Layout}
use Rattle.format.specs.Layout.{LaidOut, node_number, corner_number}
use Rattle.model.specs.Bounds.{VecWithin, PlaneWithin}
use Rattle.format.proofs.Decoded.{node_count_lem, corner_count, node_at, corner_at}

plane_within : (s : Plane) → T (plane_in_range s) → PlaneWithin 10000 s
plane_within s t =
    let abc = (both (point_in_range s.a && point_in_range s.b) (point_in_range s.c)).0 t in
    let ab = (both (point_in_range s.a) (point_in_range s.b)).0 abc.0 in
    record {
      a_within = parts_within 10000 s.a ab.0;
      b_within = parts_within 10000 s.b ab.1;
      c_within = parts_within 10000 s.c abc.1;
    }

module _ {bytes : List ℕ} {l : Layout} (laid : LaidOut bytes l) (t : T (coordinates_in_range (decode bytes))) where
  abbrev plane_of : NodeRecord → Bool
  plane_of n = plane_in_range n.plane

  halves : T (every plane_of (decode bytes).nodes) × T (every point_in_range (decode bytes).corners)
  unfolding coordinates_in_range
  halves = (both (every plane_of (decode bytes).nodes) (every point_in_range (decode bytes).corners)).0 t

  pub node_within : (k : ℕ) → k < l.nodes → PlaneWithin 10000 (node_number bytes k).plane
  node_within k h =
      plane_within (node_number bytes k).plane
      (subst (λ (n : NodeRecord). T (plane_of n)) (node_at laid k (node_number bytes 0) h)
      ((every_true plane_of (decode bytes).nodes).0 halves.0 _
      (get_d_member (decode bytes).nodes k (node_number bytes 0) (rw (node_count_lem laid) h))))

  pub corner_within : (k : ℕ) → k < l.corners → VecWithin 10000 (corner_number bytes l k)
  corner_within k h =
      parts_within 10000 (corner_number bytes l k)
      (subst (λ (c : Vec). T (point_in_range c)) (corner_at laid k origin h)
      ((every_true point_in_range (decode bytes).corners).0 halves.1 _
      (get_d_member (decode bytes).corners k origin (rw (corner_count laid) h))))

-- a machine vector that is the model's has its bounds
pub bounded : {n : ℕ} {v : Vec} {r : Vector} → vec_of r ≡ v → VecWithin n v → Bounded n r
bounded {n} {v} {r} e w =
    record {
      x_within = subst (λ (u : Vec). Within n u.x) (sym e) w.x_within;
      y_within = subst (λ (u : Vec). Within n u.y) (sym e) w.y_within;
      z_within = subst (λ (u : Vec). Within n u.z) (sym e) w.z_within;
    }
