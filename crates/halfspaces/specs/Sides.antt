-- On which sides of a plane a patch has corners.
use Rattle.std.specs.Prelude.{◌≡◌, Bool, ◌&&◌, ◌||◌, List, ℕ, ℤ, pos, ◌-ℤ◌}
use Rattle.std.specs.Bool.{beq}
use Rattle.std.specs.Int.Signed.{lt_z}
use Rattle.integer.specs.Magnitude.{Within}
use Rattle.model.specs.Lists.{any}
use Rattle.model.specs.Vector as model
use Rattle.model.specs.Vector.{Vec, dot, plane_normal}
use Rattle.model.specs.Patch.{Patch}
use Rattle.geometry.specs.Machine.{vec_of, Bounded}
use Rattle.halfspaces.specs.declared.planes.Plane.{Plane}
use Rattle.halfspaces.specs.declared.planes.Sides.{Sides}

pub record PlaneBounded (r : Plane) : Type 0 where
  pub normal_bounded : Bounded 800000000 r.normal
  pub level_within : Within 24000000000000 r.level

-- the machine's plane r is s
pub record PlaneIs (s : model.Plane) (r : Plane) : Type 0 where
  pub normal_is : vec_of r.normal ≡ plane_normal s
  pub level_is : r.level ≡ dot s.a (plane_normal s)
  pub bounded : PlaneBounded r

-- the side number of c, (c − a) · n, as c · n − a · n
abbrev pub side_of : Plane → Vec → ℤ
side_of s c = dot c (vec_of s.normal) -ℤ s.level

abbrev pub on_negative : Plane → Vec → Bool
on_negative s c = lt_z (side_of s c) (pos 0)

abbrev pub on_positive : Plane → Vec → Bool
on_positive s c = lt_z (pos 0) (side_of s c)

-- on which sides some corner lies
pub record SidesAre (s : Plane) (corners : List Vec) (r : Sides) : Type 0 where
  pub negative_is : r.negative ≡ any (on_negative s) corners
  pub positive_is : r.positive ≡ any (on_positive s) corners

-- one corner more, with side number z
pub record Joins (s : Sides) (z : ℤ) (r : Sides) : Type 0 where
  pub negative_too : r.negative ≡ (s.negative || lt_z z (pos 0))
  pub positive_too : r.positive ≡ (s.positive || lt_z (pos 0) z)

-- the patch has corners on just the sides that are wanted
unfoldable pub held : Plane → Sides → Patch → Bool
held s wanted p =
    beq (any (on_negative s) p.corners) wanted.negative
    && beq (any (on_positive s) p.corners) wanted.positive
