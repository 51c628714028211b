-- Boxes along the axes.
use Rattle.std.specs.Prelude.{◌≡◌, ◌⊎◌, ℤ, ◌≤ℤ◌}
use Rattle.integer.specs.Magnitude.{Within}
use Rattle.model.specs.Vector.{Vec}
use Rattle.geometry.specs.Machine.{vec_of, Bounded}
use Rattle.geometry.specs.declared.Vector.{Vector}
use Rattle.boxes.specs.declared.Bounds.{Bounds}
use Rattle.boxes.specs.declared.Corner.{Corner}

-- the same point, in wider numbers
abbrev pub wide : Corner → Vector
wide c = record { x = c.x; y = c.y; z = c.z }

-- on no axis is u above v
pub record PartsAtMost (u v : Vec) : Type 0 where
  pub x_most : u.x ≤ℤ v.x
  pub y_most : u.y ≤ℤ v.y
  pub z_most : u.z ≤ℤ v.z

-- the point c lies in the box b
pub record InBox (b : Bounds) (c : Vec) : Type 0 where
  pub low_most : PartsAtMost (vec_of (wide b.low)) c
  pub high_least : PartsAtMost c (vec_of (wide b.high))

-- what lies in the box b lies in the box r
pub record Covers (b r : Bounds) : Type 0 where
  pub low_most : PartsAtMost (vec_of (wide r.low)) (vec_of (wide b.low))
  pub high_least : PartsAtMost (vec_of (wide b.high)) (vec_of (wide r.high))

pub record BoxBounded (b : Bounds) : Type 0 where
  pub low_bounded : Bounded 10000 (wide b.low)
  pub high_bounded : Bounded 10000 (wide b.high)

-- ---- the box of two boxes

-- r is one of a and b, and in an order of numbers it stands after neither
pub record Extreme (before : ℤ → ℤ → Type 0) (a b r : ℤ) : Type 0 where
  pub to_first : before r a
  pub to_second : before r b
  pub one_of : (r ≡ a) ⊎ (r ≡ b)
  pub small : Within 10000 r

-- the same on each axis
pub record ExtremeCorner (before : ℤ → ℤ → Type 0) (u v r : Corner) : Type 0 where
  pub x_extreme : Extreme before u.x v.x r.x
  pub y_extreme : Extreme before u.y v.y r.y
  pub z_extreme : Extreme before u.z v.z r.z

-- upward it is the least, downward the greatest
abbrev pub upward : ℤ → ℤ → Type 0
upward m n = m ≤ℤ n

abbrev pub downward : ℤ → ℤ → Type 0
downward m n = n ≤ℤ m

-- the least box that holds both
pub record Joined (b c r : Bounds) : Type 0 where
  pub low_is : ExtremeCorner upward b.low c.low r.low
  pub high_is : ExtremeCorner downward b.high c.high r.high

-- the box that both hold; its low end may lie above its high end
pub record Common (b c r : Bounds) : Type 0 where
  pub low_is : ExtremeCorner downward b.low c.low r.low
  pub high_is : ExtremeCorner upward b.high c.high r.high
