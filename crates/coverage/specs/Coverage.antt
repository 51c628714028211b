-- Two cuttings of one ring (document 02, F-5): the points that a panel covers, whatever its pieces.
use Rattle.std.specs.Prelude.{◌≡◌, Bool, ◌&&◌, ◌↔◌, ℕ, ◌<◌, ℤ, pos, T}
use mathlib.Core.List.{List, Memᴰ}
use Rattle.std.specs.Int.Signed.{le_z}
use Rattle.model.specs.Lists.{every}
use Rattle.model.specs.Vector.{Vec, minus, times, dot, cross, is_zero}
use Rattle.model.specs.Patch.{Patch, Edge, corner, normal, edges}

-- A point q / k is three fractions over one denominator. Its side number over the patch's first three corners, times k: 0 in the patch's plane.
abbrev pub plane_side : Patch → Vec → ℕ → ℤ
plane_side p q k = dot (minus q (times (pos k) (corner p 0))) (normal p)

-- Question 8's number "n · ((w − v) × (q − v))" for an edge from v to w and this point, times k: for a point of the plane above 0 on the edge's inner side, where the
-- other corners are, and 0 on its line.
abbrev pub edge_side : Patch → Edge → Vec → ℕ → ℤ
edge_side p e q k = dot (normal p) (cross (minus e.to e.from) (minus q (times (pos k) e.from)))

-- The point lies on the patch, "its pieces' edges and corners counted in": in its plane, and on the inner side of every edge or on the edge. (So it is for a patch that
-- questions 6 and 8 let pass. Of no other is anything promised: both scenes are accepted.)
unfoldable pub covered : Patch → Vec → ℕ → Bool
covered p q k =
    is_zero (plane_side p q k) && every (λ (e : Edge). le_z (pos 0) (edge_side p e q k)) (edges p.corners)

-- some piece of panel n covers the point
pub record PanelCovers (ps : List Patch) (n : ℕ) (q : Vec) (k : ℕ) : Type 0 where
  pub piece : Patch
  pub listed : Memᴰ piece ps
  pub of_panel : piece.panel ≡ n
  pub covers : T (covered piece q k)

-- "each panel covers the same points of space, .. whatever its pieces. Points whose three parts are fractions of two whole numbers are enough": every panel number,
-- on patches or not, and every such point, its denominator above 0.
abbrev pub SameCover : List Patch → List Patch → Type 0
SameCover ps qs = (n : ℕ) (q : Vec) (k : ℕ) → 0 < k → PanelCovers ps n q k ↔ PanelCovers qs n q k
