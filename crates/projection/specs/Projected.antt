-- Question 8 of a patch projected along an axis: each corner by its two other coordinates.
use Rattle.std.specs.Prelude.{Bool, cond, List, map, ℕ, ◌+◌, ◌-◌, ◌≤◌, ◌<◌, ltb, leb, ℤ, pos, ◌-ℤ◌, ◌*ℤ◌, get_or}
use Rattle.std.specs.Int.Signed.{lt_z}
use Rattle.integer.specs.Magnitude.{Within}
use Rattle.model.specs.Lists.{every, range}
use Rattle.model.specs.Vector.{Vec, is_zero}
use Rattle.projection.specs.declared.Axis.{Axis}
use Rattle.projection.specs.declared.Axis.TheVariants.{X, Y, Z}
use Rattle.projection.specs.declared.Point.{Point}
use Rattle.projection.specs.declared.Projection.{Projection}

-- a corner's two coordinates across the axis, in the order of the cross product
pub record Projected : Type 0 where
  pub u : ℤ
  pub v : ℤ

abbrev pub projected : ℤ → ℤ → Projected
projected a b = record { u = a; v = b }

-- the machine's point
abbrev pub projected_of : Point → Projected
projected_of p = projected p.u p.v

-- the corner at a place
abbrev pub projected_at : List ℤ → List ℤ → ℕ → Projected
projected_at us vs k = projected (get_or us k (pos 0)) (get_or vs k (pos 0))

-- ---- axes
-- the part of a vector along the axis, and the two parts across it in the order of the cross product
abbrev pub along : Axis → Vec → ℤ
along X v = v.x
along Y v = v.y
along Z v = v.z

abbrev pub across : Axis → Vec → Projected
across X v = projected v.y v.z
across Y v = projected v.z v.x
across Z v = projected v.x v.y

-- the first axis that a plane with this normal is not parallel to, and the last one where there is none
abbrev pub first_axis : Vec → Axis
first_axis n = cond (is_zero n.x) (cond (is_zero n.y) Z Y) X

-- ---- bounds
pub record ProjectedWithin (s : Projected) : Type 0 where
  pub u_within : Within 10000 s.u
  pub v_within : Within 10000 s.v

pub record ThreeWithin (a b c : Projected) : Type 0 where
  pub a_within : ProjectedWithin a
  pub b_within : ProjectedWithin b
  pub c_within : ProjectedWithin c

-- 3 to 8 corners after question 3
pub record ProjectionBounded (projection : Projection) (us vs : List ℤ) : Type 0 where
  pub three : 3 ≤ projection.count
  pub eight : projection.count ≤ 8
  pub part_within : Within 800000000 projection.part
  pub corners_within : (k : ℕ) → k < projection.count → ProjectedWithin (projected_at us vs k)

-- ---- the test
-- a place of n corners, read round
abbrev pub wrap : ℕ → ℕ → ℕ
wrap n i = cond (ltb i n) i (i - n)

-- the part of (b − a) × (c − a) along the axis
abbrev pub turn_part : Projected → Projected → Projected → ℤ
turn_part a b c = (b.u -ℤ a.u) *ℤ (c.v -ℤ a.v) -ℤ (b.v -ℤ a.v) *ℤ (c.u -ℤ a.u)

-- with the part of the normal along the axis
abbrev pub turns_projected : ℤ → Projected → Projected → Projected → Bool
turns_projected part a b c = lt_z (pos 0) (part *ℤ turn_part a b c)

-- how many corners after an edge are asked: of 3 or 4 corners the next one
unfoldable pub asked : ℕ → ℕ
asked count = cond (leb count 4) 1 (count - 2)

-- the edge from corner k has the corners asked on its inner side
abbrev pub turns_projected_at : Projection → List ℤ → List ℤ → ℕ → Bool
turns_projected_at projection us vs k =
    every (turns_projected projection.part (projected_at us vs k) (projected_at us vs (wrap projection.count (k + 1))))
    (map (λ (j : ℕ). projected_at us vs (wrap projection.count (k + 2 + j))) (range 0 (asked projection.count)))

-- so does every edge
abbrev pub convex_projected : Projection → List ℤ → List ℤ → Bool
convex_projected projection us vs = every (turns_projected_at projection us vs) (range 0 projection.count)
