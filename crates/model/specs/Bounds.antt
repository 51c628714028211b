-- How large coordinates are at most.
use Rattle.std.specs.Prelude.{ℕ}
use Rattle.integer.specs.Magnitude.{Within}
use Rattle.model.specs.Vector.{Vec, Plane}

-- each part is at most n in size
pub record VecWithin (n : ℕ) (v : Vec) : Type 0 where
  pub x_within : Within n v.x
  pub y_within : Within n v.y
  pub z_within : Within n v.z

-- so is each part of a plane's three points
pub record PlaneWithin (n : ℕ) (s : Plane) : Type 0 where
  pub a_within : VecWithin n s.a
  pub b_within : VecWithin n s.b
  pub c_within : VecWithin n s.c
