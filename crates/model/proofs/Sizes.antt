-- How large vectors are at most.
use mathlib.Core.Bool.{◌&&◌}
use Prim.Native.Nat.{ℕ, ◌+◌, ◌*◌, ◌≤◌}
use lib.Dec.{T}
use lib.IntN.{ℤ}
use Rattle.integer.specs.Magnitude.{Within}
use Rattle.integer.proofs.Magnitude.{within_literal, within_more, within_sum, within_difference, within_product}
use Rattle.model.specs.Vector.{Vec, minus, times, dot, cross}
use Rattle.model.specs.Bounds.{VecWithin}
use Rattle.model.specs.Questions.{up_to, parts_up_to}
use Rattle.model.proofs.Tests.{both}

pub parts_within : (n : ℕ) (v : Vec) → T (parts_up_to n v) → VecWithin n v
parts_within n v t =
    let xyz = (both (up_to n v.x && up_to n v.y) (up_to n v.z)).0 t in
    let xy = (both (up_to n v.x) (up_to n v.y)).0 xyz.0 in
    record { x_within = within_literal xy.0; y_within = within_literal xy.1; z_within = within_literal xyz.1 }

pub vec_more : {n m : ℕ} {v : Vec} → VecWithin n v → n ≤ m → VecWithin m v
vec_more h k = record { x_within = within_more h.x_within k; y_within = within_more h.y_within k; z_within = within_more h.z_within k }

pub minus_within : {n m : ℕ} {u v : Vec} → VecWithin n u → VecWithin m v → VecWithin (n + m) (minus u v)
minus_within h k =
    record {
      x_within = within_difference h.x_within k.x_within;
      y_within = within_difference h.y_within k.y_within;
      z_within = within_difference h.z_within k.z_within;
    }

pub times_within : {n m : ℕ} {k : ℤ} {v : Vec} → Within n k → VecWithin m v → VecWithin (n * m) (times k v)
times_within h k =
    record {
      x_within = within_product h k.x_within;
      y_within = within_product h k.y_within;
      z_within = within_product h k.z_within;
    }

pub cross_within : {n m : ℕ} {u v : Vec} → VecWithin n u → VecWithin m v → VecWithin (n * m + n * m) (cross u v)
cross_within h k =
    record {
      x_within = within_difference (within_product h.y_within k.z_within) (within_product h.z_within k.y_within);
      y_within = within_difference (within_product h.z_within k.x_within) (within_product h.x_within k.z_within);
      z_within = within_difference (within_product h.x_within k.y_within) (within_product h.y_within k.x_within);
    }

pub dot_within : {n m : ℕ} {u v : Vec} → VecWithin n u → VecWithin m v → Within (n * m + n * m + n * m) (dot u v)
dot_within h k =
    within_sum (within_sum (within_product h.x_within k.x_within) (within_product h.y_within k.y_within))
    (within_product h.z_within k.z_within)
