-- The line that a cell is read along is parallel to the plane of no patch of an accepted scene, and passes beside every edge of a patch that is not seen edge-on: it lies
-- in no plane through the eye and the edge.
use mathlib.Core.Path.{◌≡◌}
use mathlib.Core.Logic.{◌≢◌}
use mathlib.Core.List.{Memᴰ}
use Prim.Native.Nat.{ℕ}
use lib.Dec.{T, lit≤}
use lib.IntN.{pos}
use Rattle.integer.proofs.Products.{pos→≢}
use Rattle.integer.proofs.Signs.{same_sym, same-≢}
use Rattle.model.specs.Vector.{Vec, minus, dot}
use Rattle.model.specs.Bounds.{VecWithin}
use Rattle.model.specs.Patch.{Patch, Edge, Proper, normal, edges}
use Rattle.model.specs.Ray.{eye_product, edge_vector, edge_number}
use Rattle.model.specs.View.{View, direction}
use Rattle.model.specs.Beside.{cell_line}
use Rattle.model.specs.Questions.{view_in_range, axes_proper}
use Rattle.model.proofs.Vectors.{det, cramer}
use Rattle.model.proofs.Rounds.{edge_other}
use Rattle.model.proofs.Patches.{three_corners, normal_square}
use Rattle.model.proofs.Fan.{corner_sign, along}
use Rattle.model.proofs.Sizes.{vec_more}
use Rattle.model.proofs.Alike.{largest, Ranged, edge_within, normal_within}
use Rattle.model.proofs.Beside.{line_zero}
use Rattle.model.proofs.Views.{axes_apart}

-- a direction that is perpendicular to a vector of a scene's size only where all directions are: where it is zero
pub record Generic (D : Vec) : Type 0 where
  pub only_zero : {w : Vec} → VecWithin largest w → dot D w ≡ pos 0 → (x : Vec) → dot x w ≡ pos 0

-- In an accepted view such is the line of every cell: where it is perpendicular to the vector, so are right, the cell's direction and up, and they do not lie in one plane.
pub line_generic :
    (v : View) → T (view_in_range v) → T (axes_proper v.camera.axes) → (i j : ℕ) → Generic (cell_line v.camera i j)
line_generic v view axes i j =
    record {
      only_zero = λ {w} h e x.
          let z = line_zero v.camera axes i j h e in
          along (det x d up) (det x up right) (det x right d) (pos→≢ (axes_apart v view axes i j)) z.1 z.0 z.2 (cramer right d up x w);
    }
  where
    right : Vec
    right = v.camera.axes.right

    d : Vec
    d = direction v.camera i j

    up : Vec
    up = v.camera.axes.up

module _
    {eye D : Vec} (eye_within : VecWithin 10000 eye) (generic : Generic D)
    {p : Patch} (proper : Proper p) (ranged : Ranged p)
  where
    -- else the normal would be perpendicular to itself
    pub off_plane_lem : dot D (normal p) ≢ pos 0
    off_plane_lem e =
        pos→≢ (normal_square proper)
        (generic.only_zero (vec_more (normal_within eye_within proper ranged) (lit≤ tt)) e (normal p))

    -- else the eye, the edge and another corner would lie in one plane
    pub off_edge :
        eye_product eye p ≢ pos 0 → {e : Edge} → Memᴰ e (edges p.corners) →
        edge_number D (edge_vector eye e) ≢ pos 0
    off_edge faced {e} l z =
        let o = edge_other (three_corners proper) l in
        same-≢ (same_sym (corner_sign eye proper faced l o.1 o.2))
        (generic.only_zero (vec_more (edge_within eye_within ranged l) (lit≤ tt)) z (minus o.0 eye))
