-- Points and vectors of whole numbers, planes, and the side of a plane.
use Rattle.std.specs.Prelude.{Bool, true, false, zero, suc, ℤ, pos, negsuc, ◌+ℤ◌, ◌-ℤ◌, ◌*ℤ◌}

-- "Axes: first to the right, second forward along the bore, third up." These are the scene's; a camera has its own (`Axes` in View).
pub record Vec : Type 0 where
  pub x : ℤ
  pub y : ℤ
  pub z : ℤ

abbrev pub vec : ℤ → ℤ → ℤ → Vec
vec a b c = record { x = a; y = b; z = c }

abbrev pub origin : Vec
origin = vec (pos 0) (pos 0) (pos 0)

abbrev pub minus : Vec → Vec → Vec
minus a b = vec (a.x -ℤ b.x) (a.y -ℤ b.y) (a.z -ℤ b.z)

abbrev pub plus : Vec → Vec → Vec
plus a b = vec (a.x +ℤ b.x) (a.y +ℤ b.y) (a.z +ℤ b.z)

abbrev pub times : ℤ → Vec → Vec
times k a = vec (k *ℤ a.x) (k *ℤ a.y) (k *ℤ a.z)

abbrev pub dot : Vec → Vec → ℤ
dot a b = a.x *ℤ b.x +ℤ a.y *ℤ b.y +ℤ a.z *ℤ b.z

abbrev pub cross : Vec → Vec → Vec
cross a b =
    vec (a.y *ℤ b.z -ℤ a.z *ℤ b.y) (a.z *ℤ b.x -ℤ a.x *ℤ b.z) (a.x *ℤ b.y -ℤ a.y *ℤ b.x)

abbrev pub is_zero : ℤ → Bool
is_zero (pos zero) = true
is_zero (pos (suc n)) = false
is_zero (negsuc n) = false

-- a plane by three of its points
pub record Plane : Type 0 where
  pub a : Vec
  pub b : Vec
  pub c : Vec

-- (b − a) × (c − a)
abbrev pub plane_normal : Plane → Vec
plane_normal s = cross (minus s.b s.a) (minus s.c s.a)

-- "For points a, b, c the side number of p is (p − a) · ((b − a) × (c − a)). Above 0 is the positive side, below 0 the negative, 0 is on the plane. The sign is exact at and
-- around zero and at the ends of the range."
abbrev pub side : Plane → Vec → ℤ
side s p = dot (minus p s.a) (plane_normal s)

-- the plane turned over, by exchanging its second and third point: each side number becomes its opposite (`side_turned` in proofs/Vectors)
abbrev pub turned_over : Plane → Plane
turned_over s = record { a = s.a; b = s.c; c = s.b }
