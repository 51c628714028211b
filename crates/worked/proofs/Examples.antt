-- S's square cut in several ways, and scenes that cover other points: what each shows in a window whose lines run along the cuts, and which of them cover the same.
use mathlib.Core.Path.{◌≡◌, refl}
use mathlib.Core.Bool.{Bool, true, false}
use mathlib.Core.Logic.{◌↔◌, ◌⊎◌, inl, inr}
use mathlib.Core.List.Memᴰ
use mathlib.Core.List.{List, [], ◌∷◌, ◌++◌, map, flatten, Memᴰ}
use Prim.Native.Nat.{ℕ, ◌+◌}
use lib.Dec.{T, lit<}
use lib.IntN.{ℤ, pos, neg_ℤ}
use lib.ListN.{length, replicate}
use lib.Signed.{lt_z_yes}
use Rattle.model.specs.Vector.{Vec, Plane, vec, origin}
use Rattle.model.specs.Patch.{Patch, Proper}
use Rattle.model.specs.Format.{decode, patch_table}
use Rattle.model.proofs.Computing.{everything}
use Rattle.model.proofs.Encode.{PatchLine, scene_bytes}
use Rattle.model.proofs.Scenes.{upright, none, node_line, patch_line, fitting_call, scene_s, scene_twice}
use Rattle.model.proofs.Stations.{Bookings, booked}
use Rattle.coverage.specs.Coverage.{covered, PanelCovers, SameCover}
use Rattle.coverage.proofs.Covered.{covers_cases, covers_first, same_pieces, told_apart}
use Rattle.coverage.proofs.Hull.{same_corners}
use Rattle.coverage.proofs.Rectangles.{rectangle, cut_in_two}

-- ---- the scenes

-- fifty to the left or below
abbrev neg50 : ℤ
neg50 = neg_ℤ (pos 50)

-- patch records in the order of their corners, from the corner of this number on
unfoldable pub patch_lines : ℕ → List Patch → List PatchLine
patch_lines first [] = []
patch_lines first (p ∷ ps) = patch_line p.panel first (length p.corners) ∷ patch_lines (first + length p.corners) ps

-- pieces on S's plane, in one node
abbrev one_plane : List Patch → List ℕ
one_plane ps =
    scene_bytes (node_line (upright (pos 100) (pos 50)) none none 0 (length ps) ∷ []) (patch_lines 0 ps)
    (flatten (map (λ (p : Patch). p.corners) ps))

-- a piece of panel 5 by its corners
abbrev five : List Vec → Patch
five cs = record { panel = 5; corners = cs }

-- S's square, its corners and its centre
abbrev low_left : Vec
low_left = vec neg50 (pos 100) neg50

abbrev low_right : Vec
low_right = vec (pos 50) (pos 100) neg50

abbrev high_right : Vec
high_right = vec (pos 50) (pos 100) (pos 50)

abbrev high_left : Vec
high_left = vec neg50 (pos 100) (pos 50)

abbrev centre : Vec
centre = vec (pos 0) (pos 100) (pos 0)

-- the square as a piece, and the other way round
abbrev around : Patch
around = five (low_left ∷ low_right ∷ high_right ∷ high_left ∷ [])

abbrev back : Patch
back = five (high_left ∷ high_right ∷ low_right ∷ low_left ∷ [])

-- four quarters
abbrev quarters : List ℕ
quarters =
    one_plane
    (rectangle 5 neg50 (pos 0) (pos 0) (pos 50)
    ∷ rectangle 5 (pos 0) (pos 50) (pos 0) (pos 50)
    ∷ rectangle 5 neg50 (pos 0) neg50 (pos 0)
    ∷ rectangle 5 (pos 0) (pos 50) neg50 (pos 0)
    ∷ [])

-- two triangles along a diagonal, and four at the centre
abbrev two_triangles : List ℕ
two_triangles = one_plane (five (low_left ∷ low_right ∷ high_right ∷ []) ∷ five (low_left ∷ high_right ∷ high_left ∷ []) ∷ [])

abbrev four_triangles : List ℕ
four_triangles =
    one_plane
    (five (low_left ∷ low_right ∷ centre ∷ [])
    ∷ five (low_right ∷ high_right ∷ centre ∷ [])
    ∷ five (high_right ∷ high_left ∷ centre ∷ [])
    ∷ five (high_left ∷ low_left ∷ centre ∷ [])
    ∷ [])

-- two pieces that overlap, the first of them twice, the other with its corners the other way round
abbrev overlapping : List ℕ
overlapping =
    one_plane
    (rectangle 5 neg50 (pos 20) neg50 (pos 50)
    ∷ rectangle 5 neg50 (pos 20) neg50 (pos 50)
    ∷ five (vec (neg_ℤ (pos 20)) (pos 100) (pos 50) ∷ high_right ∷ low_right ∷ vec (neg_ℤ (pos 20)) (pos 100) neg50 ∷ [])
    ∷ [])

-- The plane x = 0 as root, with no patch, and a half below each of its sides: the left one is the positive.
abbrev pub halves : List ℕ
halves =
    scene_bytes
    (node_line middle_plane 1 2 0 0
    ∷ node_line (upright (pos 100) (pos 50)) none none 0 1
    ∷ node_line (upright (pos 100) (pos 50)) none none 1 1
    ∷ [])
    (patch_line 5 0 4 ∷ patch_line 5 4 4 ∷ [])
    ((rectangle 5 neg50 (pos 0) neg50 (pos 50)).corners ++ (rectangle 5 (pos 0) (pos 50) neg50 (pos 50)).corners)
  where
    middle_plane : Plane
    middle_plane = record { a = origin; b = vec (pos 0) (pos 0) (pos 1); c = vec (pos 0) (pos 1) (pos 0) }

-- the square with its corners the other way round
abbrev reversed : List ℕ
reversed = one_plane (back ∷ [])

-- two panels that overlap, whole, and each cut at x = 0
abbrev two_panels : List ℕ
two_panels = one_plane (rectangle 3 neg50 (pos 10) neg50 (pos 50) ∷ rectangle 5 (neg_ℤ (pos 10)) (pos 50) neg50 (pos 50) ∷ [])

abbrev two_panels_cut : List ℕ
two_panels_cut =
    one_plane
    (rectangle 3 neg50 (pos 0) neg50 (pos 50)
    ∷ rectangle 3 (pos 0) (pos 10) neg50 (pos 50)
    ∷ rectangle 5 (neg_ℤ (pos 10)) (pos 0) neg50 (pos 50)
    ∷ rectangle 5 (pos 0) (pos 50) neg50 (pos 50)
    ∷ [])

-- Not the same cover: the halves with a gap of one unit between them, and with the left half as panel 4.
abbrev gap : List ℕ
gap = one_plane (rectangle 5 neg50 (pos 0) neg50 (pos 50) ∷ rectangle 5 (pos 1) (pos 50) neg50 (pos 50) ∷ [])

abbrev left_as4 : List ℕ
left_as4 = one_plane (rectangle 4 neg50 (pos 0) neg50 (pos 50) ∷ rectangle 5 (pos 0) (pos 50) neg50 (pos 50) ∷ [])

-- ---- what they show

-- a scene, and what is due in a window 3 by 3: two rows of two cells show this, the patches have these cells, and the panels named these counts
pub record Cut : Type 0 where
  pub scene : List ℕ
  pub left : ℕ
  pub right : ℕ
  pub each : List ℕ
  pub panels : List ℕ
  pub cells : List ℕ

-- what the definitions say
unfoldable pub seen : Cut → Bookings
seen k = booked (fitting_call k.scene origin 3 3 4) k.panels

unfoldable pub due : Cut → Bookings
due k =
    record {
      result = 0;
      shown = k.left ∷ k.right ∷ 0 ∷ k.left ∷ k.right ∷ 0 ∷ 0 ∷ 0 ∷ 0 ∷ [];
      each = k.each;
      counted = k.cells;
      added = k.cells;
    }

-- all four cells show panel 5
abbrev all_five : List ℕ → List ℕ → Cut
all_five bytes each = record { scene = bytes; left = 5; right = 5; each = each; panels = 5 ∷ []; cells = 4 ∷ [] }

abbrev pub cuts : List Cut
cuts =
    all_five scene_s (4 ∷ [])
    ∷ all_five quarters (1 ∷ 1 ∷ 1 ∷ 1 ∷ [])
    ∷ all_five two_triangles (1 ∷ 3 ∷ [])
    ∷ all_five four_triangles (0 ∷ 1 ∷ 2 ∷ 1 ∷ [])
    ∷ all_five overlapping (4 ∷ 0 ∷ 0 ∷ [])
    ∷ all_five halves (2 ∷ 2 ∷ [])
    ∷ record { scene = two_panels; left = 3; right = 3; each = 4 ∷ 0 ∷ []; panels = 3 ∷ 5 ∷ []; cells = 4 ∷ 0 ∷ [] }
    ∷ record { scene = two_panels_cut; left = 3; right = 3; each = 2 ∷ 2 ∷ 0 ∷ 0 ∷ []; panels = 3 ∷ 5 ∷ []; cells = 4 ∷ 0 ∷ [] }
    ∷ record { scene = gap; left = 5; right = 0; each = 2 ∷ 0 ∷ []; panels = 5 ∷ []; cells = 2 ∷ [] }
    ∷ record { scene = left_as4; left = 4; right = 5; each = 2 ∷ 2 ∷ []; panels = 4 ∷ 5 ∷ []; cells = 2 ∷ 2 ∷ [] }
    ∷ []

-- Six cuttings of one square show one picture with one count, whatever cells their patches have, and so do two cuttings of two panels. The last two scenes do not cover
-- the same points, and each shows another picture.
pub cut_stations : map seen cuts ≡ map due cuts
unfolding everything booked patch_lines seen due
cut_stations = refl

-- ---- what they cover

-- a point by its numerators and its denominator
pub record Point : Type 0 where
  pub numerators : Vec
  pub denominator : ℕ

abbrev point : ℤ → ℤ → ℤ → ℕ → Point
point x y z k = record { numerators = vec x y z; denominator = k }

-- a corner, a point of an edge, the centre and another inner point
abbrev pub on_square : List Point
on_square =
    point neg50 (pos 100) neg50 1
    ∷ point (pos 1) (pos 200) (pos 100) 2
    ∷ point (pos 0) (pos 100) (pos 0) 1
    ∷ point (pos 99) (pos 200) (neg_ℤ (pos 99)) 2
    ∷ []

-- to the left, to the right (by one unit and by half of it), below, above, before and behind (by one unit and by half of it)
abbrev pub off_square : List Point
off_square =
    point (neg_ℤ (pos 51)) (pos 100) (pos 0) 1
    ∷ point (pos 51) (pos 100) (pos 0) 1
    ∷ point (pos 101) (pos 200) (pos 0) 2
    ∷ point (pos 0) (pos 100) (neg_ℤ (pos 51)) 1
    ∷ point (pos 0) (pos 100) (pos 51) 1
    ∷ point (pos 0) (pos 99) (pos 0) 1
    ∷ point (pos 0) (pos 101) (pos 0) 1
    ∷ point (pos 0) (pos 201) (pos 0) 2
    ∷ []

-- the square, the same from another corner on, and the same the other way round
abbrev pub squares : List Patch
squares = around ∷ five (high_right ∷ high_left ∷ low_left ∷ low_right ∷ []) ∷ back ∷ []

unfoldable pub covers_at : Point → Patch → Bool
covers_at q p = covered p q.numerators q.denominator

-- S's square covers these points and not those, in each of the three ways. (Of any patch: `same_corners`.)
pub square_covers :
    (map (λ (q : Point). map (covers_at q) squares) on_square ≡ replicate 4 (replicate 3 true))
    × (map (λ (q : Point). map (covers_at q) squares) off_square ≡ replicate 8 (replicate 3 false))
unfolding everything covered covers_at
square_covers = (refl, refl)

-- The scenes S and `halves`, both accepted, cover the same points: two cuttings as F-5 asks for them.
pub halves_cover : SameCover (patch_table (decode scene_s)) (patch_table (decode halves))
unfolding everything
halves_cover =
    cut_in_two 5 {left = neg50} {middle = pos 0} {right = pos 50} {low = neg50} {high = pos 50} (lt_z_yes tt) (lt_z_yes tt) (lt_z_yes tt)

-- So do S and S's square twice.
pub twice_covers : SameCover (patch_table (decode scene_s)) (patch_table (decode scene_twice))
unfolding everything
twice_covers = same_pieces (λ p. (Memᴰ.tail, once))
  where
    once : {p r : Patch} → Memᴰ p (r ∷ r ∷ []) → Memᴰ p (r ∷ [])
    once (Memᴰ.head e) = Memᴰ.head e
    once (Memᴰ.tail m) = m

-- And S and its square with the corners the other way round.
pub reversed_covers : SameCover (patch_table (decode scene_s)) (patch_table (decode reversed))
unfolding everything patch_lines
reversed_covers n q k h = (
  λ c. alone around back (same_corners proper_around proper_back turned q k).0 (covers_cases c),
  λ c. alone back around (same_corners proper_around proper_back turned q k).1 (covers_cases c),
)
  where
    alone :
        (p r : Patch) → (T (covered p q k) → T (covered r q k)) →
        ((r.panel ≡ n) × T (covered p q k)) ⊎ PanelCovers [] n q k → PanelCovers (r ∷ []) n q k
    alone p r f (inl (e, t)) = covers_first e (f t)
    alone p r f (inr c) = absurd (Memᴰ.not-nil c.listed)

    proper_around : Proper around
    proper_around = record { counted = tt; is_flat = tt; is_convex = tt }

    proper_back : Proper back
    proper_back = record { counted = tt; is_flat = tt; is_convex = tt }

    mirrored : {a b c d v : Vec} → Memᴰ v (a ∷ b ∷ c ∷ d ∷ []) → Memᴰ v (d ∷ c ∷ b ∷ a ∷ [])
    mirrored (Memᴰ.head e) = Memᴰ.tail (Memᴰ.tail (Memᴰ.tail (Memᴰ.head e)))
    mirrored (Memᴰ.tail (Memᴰ.head e)) = Memᴰ.tail (Memᴰ.tail (Memᴰ.head e))
    mirrored (Memᴰ.tail (Memᴰ.tail (Memᴰ.head e))) = Memᴰ.tail (Memᴰ.head e)
    mirrored (Memᴰ.tail (Memᴰ.tail (Memᴰ.tail (Memᴰ.head e)))) = Memᴰ.head e
    mirrored {a = a} {b = b} {c = c} {d = d} {v = v} (Memᴰ.tail (Memᴰ.tail (Memᴰ.tail (Memᴰ.tail x)))) = elim x [ ]

    turned : (c : Vec) → Memᴰ c around.corners ↔ Memᴰ c back.corners
    turned c = (mirrored, mirrored)

-- With the gap they do not: the point (1/2, 100, 0) is in it. Nor with the left half as panel 4.
pub gap_uncovered : SameCover (patch_table (decode scene_s)) (patch_table (decode gap)) → ⊥
unfolding everything covered patch_lines
gap_uncovered = told_apart (patch_table (decode scene_s)) (patch_table (decode gap)) 5 (vec (pos 1) (pos 200) (pos 0)) 2 (lit< tt) tt tt

pub other_panel : SameCover (patch_table (decode scene_s)) (patch_table (decode left_as4)) → ⊥
unfolding everything covered patch_lines
other_panel = told_apart (patch_table (decode scene_s)) (patch_table (decode left_as4)) 5 (vec (neg_ℤ (pos 1)) (pos 100) (pos 0)) 1 (lit< tt) tt tt
