-- Machine vectors as the model's vectors, and how large they are at most.
use Rattle.std.specs.Prelude.{◌≡◌, ℕ, ℤ}
use Rattle.integer.specs.Magnitude.{Within}
use Rattle.model.specs.Vector.{Vec, Plane, vec}
use Rattle.geometry.specs.declared.Vector.{Vector}

abbrev pub vec_of : Vector → Vec
vec_of v = vec v.x v.y v.z

abbrev pub plane_of : Vector → Vector → Vector → Plane
plane_of a b c = record { a = vec_of a; b = vec_of b; c = vec_of c }

-- each part is at most n in size
pub record Bounded (n : ℕ) (v : Vector) : Type 0 where
  pub x_within : Within n v.x
  pub y_within : Within n v.y
  pub z_within : Within n v.z

-- What a function returns: the vector r is the model's v, and its parts are at most n in size.
pub record VectorIs (n : ℕ) (v : Vec) (r : Vector) : Type 0 where
  pub value : vec_of r ≡ v
  pub bounded : Bounded n r

-- The number r is the model's z, and is at most n in size.
pub record NumberIs (n : ℕ) (z r : ℤ) : Type 0 where
  pub value : r ≡ z
  pub bounded : Within n r
