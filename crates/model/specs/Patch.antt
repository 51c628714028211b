-- A patch: a flat piece of a panel.
use Rattle.std.specs.Prelude.{Bool, ◌&&◌, List, [], ◌∷◌, ◌++◌, map, ℕ, T, leb, pos, length, get_or, take, drop}
use Rattle.std.specs.Int.Signed.{lt_z}
use Rattle.model.specs.Lists.{every, range}
use Rattle.model.specs.Vector.{Vec, Plane, origin, minus, dot, cross, is_zero, plane_normal, side}

-- "A patch in hand is a panel number, a corner count and eight corner places, of which the first ones are used": the panel and the used corners.
pub record Patch : Type 0 where
  pub panel : ℕ
  pub corners : List Vec

-- a patch by its number, its place in a list (a number past the end reads as a patch without corners)
abbrev pub numbered : List Patch → ℕ → Patch
numbered ps k = get_or ps k (record { panel = 0; corners = [] })

-- A corner by its place. A place past the end reads as the origin, which does no harm: question 6 comes before question 8, which reads the first three, and a patch with fewer than three corners is
-- never met.
abbrev pub corner : Patch → ℕ → Vec
corner p k = get_or p.corners k origin

-- the plane of the first three corners
abbrev pub patch_plane : Patch → Plane
patch_plane p = record { a = corner p 0; b = corner p 1; c = corner p 2 }

-- "the normal (b − a) × (c − a) of its first three corners"
abbrev pub normal : Patch → Vec
normal p = plane_normal (patch_plane p)

-- an edge from one corner to the next, with the other corners by their place in the list
pub record Edge : Type 0 where
  pub from : Vec
  pub to : Vec
  pub others : List Vec

-- the corners read round from place k on
abbrev pub round : List Vec → ℕ → List Vec
round cs k = drop k cs ++ take k cs

-- the edge that a list of corners begins with (a list of less than two corners has none: any value will do)
abbrev pub first_edge : List Vec → Edge
first_edge [] = record { from = origin; to = origin; others = [] }
first_edge (v ∷ []) = record { from = v; to = v; others = [] }
first_edge (v ∷ w ∷ others) = record { from = v; to = w; others = others }

-- the edges, one from each corner, the last corner's back to the first
unfoldable pub edges : List Vec → List Edge
edges cs = map (λ (k : ℕ). first_edge (round cs k)) (range 0 (length cs))

-- "has each patch 3 to 8 corners?"
abbrev pub corners_counted : Patch → Bool
corners_counted p = leb 3 (length p.corners) && leb (length p.corners) 8

-- all corners are on a plane
unfoldable pub lies_on : Plane → Patch → Bool
lies_on s p = every (λ (c : Vec). is_zero (side s c)) p.corners

-- "every corner is on their plane"
unfoldable pub flat : Patch → Bool
flat p = lies_on (patch_plane p) p

-- "n · ((w − v) × (q − v)) is above 0"
abbrev pub turns_towards : Vec → Edge → Vec → Bool
turns_towards n e q = lt_z (pos 0) (dot n (cross (minus e.to e.from) (minus q e.from)))

-- "for each edge from v to w and each other corner q, n · ((w − v) × (q − v)) is above 0"
unfoldable pub strictly_convex : Patch → Bool
strictly_convex p = every (λ (e : Edge). every (turns_towards (normal p) e) e.others) (edges p.corners)

-- the patch has 3 to 8 corners, is flat and strictly convex
pub record Proper (p : Patch) : Type 0 where
  pub counted : T (corners_counted p)
  pub is_flat : T (flat p)
  pub is_convex : T (strictly_convex p)
