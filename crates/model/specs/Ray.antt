-- Lines from the eye: which patches they meet, how far away, and the closest panel along a line. Tree and walk have no part in it. (A cell is read by the lines just beside
-- its sight line: Beside.)
use Rattle.std.specs.Prelude.{Bool, true, false, not, cond, ◌&&◌, ◌||◌, ℕ, ◌*◌, ◌≤◌, T, ltb, ℤ, pos, nat_abs, ◌*ℤ◌}
use mathlib.Core.List.{List, [], ◌∷◌, Memᴰ}
use Rattle.std.proofs.Math.Option.{Option, none, some}
use Rattle.std.specs.Int.Signed.{lt_z}
use Rattle.model.specs.Lists.{every}
use Rattle.model.specs.Vector.{Vec, minus, dot, cross, is_zero}
use Rattle.model.specs.Patch.{Patch, Edge, corner, normal, edges}

-- "the eye-to-corner product (first corner − eye) · n"
abbrev pub eye_product : Vec → Patch → ℤ
eye_product eye p = dot (minus (corner p 0) eye) (normal p)

-- "(v − eye) × (w − eye)"
abbrev pub edge_vector : Vec → Edge → Vec
edge_vector eye e = cross (minus e.from eye) (minus e.to eye)

-- the number whose sign says on which side of an edge a ray passes: "direction · ((v − eye) × (w − eye))"
abbrev pub edge_number : Vec → Vec → ℤ
edge_number direction vector = dot direction vector

-- neither is zero, and both have one sign: the product is above 0
abbrev pub same_sign : ℤ → ℤ → Bool
same_sign m n = lt_z (pos 0) (m *ℤ n)

-- "It meets a patch when, for every edge from v to w, direction · ((v − eye) × (w − eye)) is not zero and has the sign of the eye-to-corner product
-- (first corner − eye) · n, also not zero. A patch behind the eye or with the eye in its plane is not met. Both faces show."
unfoldable pub met : Vec → Vec → Patch → Bool
met eye d p =
    not (is_zero (eye_product eye p))
    && every (λ (e : Edge). same_sign (eye_product eye p) (edge_number d (edge_vector eye e))) (edges p.corners)

-- "Distance along the line is a fraction of two whole numbers"
pub record Fraction : Type 0 where
  pub numerator : ℤ
  pub denominator : ℤ

-- "(first corner − eye) · n over direction · n"
abbrev pub distance : Vec → Vec → Patch → Fraction
distance eye d p = record { numerator = eye_product eye p; denominator = dot d (normal p) }

-- f is below g. "The definition compares it exactly": both numbers of a fraction have one sign where a flat, convex patch is met ("above 0 where the patch is met";
-- `distance_positive` in proofs/Sides), so their magnitudes are cross-multiplied.
abbrev pub below : Fraction → Fraction → Bool
below f g = ltb (nat_abs f.numerator * nat_abs g.denominator) (nat_abs g.numerator * nat_abs f.denominator)

-- patch p precedes patch q: it is nearer, or they are level and its panel number is lower
unfoldable pub precedes : Vec → Vec → Patch → Patch → Bool
precedes eye d p q =
    below (distance eye d p) (distance eye d q)
    || (not (below (distance eye d q) (distance eye d p)) && ltb p.panel q.panel)

-- a patch, and what the rest of the list after it shows: it counts where it is met, and shows unless the other precedes it
unfoldable pub nearest : Vec → Vec → Bool → Patch → Option Patch → Option Patch
nearest eye d false p rest = rest
nearest eye d true p none = some p
nearest eye d true p (some q) = cond (precedes eye d q p) (some q) (some p)

-- the met patch at the least distance, of the lowest panel number there, the earliest of those in the list
unfoldable pub closest_patch : Vec → Vec → List Patch → Option Patch
closest_patch eye d [] = none
closest_patch eye d (p ∷ ps) = nearest eye d (met eye d p) p (closest_patch eye d ps)

-- a patch's panel number, 0 for none
unfoldable pub panel_of : Option Patch → ℕ
panel_of none = 0
panel_of (some p) = p.panel

-- "A cell's closest panel is that of the met patch at the least distance, the lowest panel number where several are level there, and 0 where none is met."
unfoldable pub closest : Vec → Vec → List Patch → ℕ
closest eye d ps = panel_of (closest_patch eye d ps)

-- The same as a relation, in the words of that sentence: the panel of a met patch at the least distance, lowest among those that are level with it; or 0.
pub data IsClosest (eye d : Vec) (ps : List Patch) : ℕ → Type 0 where
  none_met : ((q : Patch) → Memᴰ q ps → T (met eye d q) → ⊥) → IsClosest eye d ps 0
  shows :
      (p : Patch) →
      Memᴰ p ps →
      T (met eye d p) →
      ((q : Patch) → Memᴰ q ps → T (met eye d q) → T (not (below (distance eye d q) (distance eye d p)))) →
      ((q : Patch) →
      Memᴰ q ps →
      T (met eye d q) →
      T (not (below (distance eye d p) (distance eye d q))) →
      p.panel ≤ q.panel) →
      IsClosest eye d ps p.panel

-- The first patch of a list that a ray meets: what a walk front to back shows. Contracts inside the library cite it, and no public call's does.
unfoldable pub first_met : Vec → Vec → List Patch → Option Patch
first_met eye d [] = none
first_met eye d (p ∷ ps) = cond (met eye d p) (some p) (first_met eye d ps)
