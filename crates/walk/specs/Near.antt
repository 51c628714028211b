-- The order in which a node's children are walked.
use Rattle.std.specs.Prelude.{◌≡◌, cond, ℕ, pos}
use Rattle.std.specs.Int.Signed.{lt_z}
use Rattle.model.specs.Vector.{Vec, Plane, side}
use Rattle.walk.specs.declared.order.Children.{Children}

-- the child on the eye's side first: the negative one where the eye is on the negative side, else the positive one
pub record NearFirst (s : Plane) (eye : Vec) (positive negative : ℕ) (r : Children) : Type 0 where
  pub near_child : r.near ≡ cond (lt_z (side s eye) (pos 0)) negative positive
  pub far_child : r.far ≡ cond (lt_z (side s eye) (pos 0)) positive negative
