-- How large a vector is whose parts are from −n to n.
use Prim.Native.Nat.{ℕ, ◌≤◌}
use lib.Dec.{T}
use Rattle.model.specs.Bounds.{VecWithin}
use Rattle.model.specs.Questions.{parts_up_to}
use Rattle.model.proofs.Sizes.{parts_within, vec_more}
use Rattle.geometry.specs.declared.Vector.{Vector}
use Rattle.geometry.specs.Machine.{vec_of, Bounded}

-- how large its parts are
pub parts_bounded : (n : ℕ) {m : ℕ} (v : Vector) → n ≤ m → T (parts_up_to n (vec_of v)) → Bounded m v
parts_bounded n v h t =
    let s = vec_more (parts_within n (vec_of v) t) h in
    record { x_within = s.x_within; y_within = s.y_within; z_within = s.z_within }

-- a machine vector's bounds are the model's
pub vec_within : {n : ℕ} {v : Vector} → Bounded n v → VecWithin n (vec_of v)
vec_within h = record { x_within = h.x_within; y_within = h.y_within; z_within = h.z_within }
