-- On which sides of a plane a patch has corners, and what that says of it.
use mathlib.Core.Path.{◌≡◌, sym, ap, ap₂, ◌∙◌}
use mathlib.Core.Bool.{Bool, ◌&&◌, ◌||◌, beq, or-false}
use mathlib.Core.List.{List, [], ◌∷◌, map, map-append}
use Prim.Native.Nat.{ℕ, ◌+◌, ◌≤◌, ◌<◌}
use native.Mathlib.Omega.{arith}
use lib.IntN.{ℤ, pos}
use lib.Signed.{lt_z}
use Rattle.model.specs.Lists.{any, range}
use Rattle.model.specs.Vector.{Vec}
use Rattle.model.specs.Format.{decode, patch_numbered}
use Rattle.format.specs.Layout.{corner_number}
use Rattle.format.specs.declared.layout.Layout.{Layout}
use Rattle.format.specs.declared.records.Run.{Run}
use Rattle.halfspaces.specs.Sides.{side_of, on_negative, on_positive, SidesAre, Joins, held}
use Rattle.checked.specs.Checked.{CornersAre}
use Rattle.halfspaces.specs.declared.planes.Plane.{Plane}
use Rattle.halfspaces.specs.declared.planes.Sides.{Sides}
use Rattle.model.proofs.Tests.{any_append}
use Rattle.model.proofs.Ranges.{range_append}

-- ---- the corners of a patch, one after another

-- while the corners of a run are looked at: on which sides the first k lie
pub record Found (s : Plane) (corner : ℕ → Vec) (first count : ℕ) (found : Sides) (k : ℕ) : Type 0 where
  pub most : k ≤ count
  pub sides : SidesAre s (map corner (range first k)) found

first_corners :
    (corner : ℕ → Vec) (test : Vec → Bool) (first k : ℕ) →
    any test (map corner (range first (k + 1))) ≡ (any test (map corner (range first k)) || test (corner (first + k)))
first_corners corner test first k =
    ap (λ (l : List ℕ). any test (map corner l)) (range_append first k 1)
    ∙ ap (any test) (map-append corner (range first k) ((first + k) ∷ []))
    ∙ any_append test (map corner (range first k)) (corner (first + k) ∷ [])
    ∙ ap (λ (b : Bool). any test (map corner (range first k)) || b) (or-false (test (corner (first + k))))

module _ {s : Plane} {corner : ℕ → Vec} {first count : ℕ} where
  pub found_more :
      {found r : Sides} {k : ℕ} {z : ℤ} →
      Found s corner first count found k →
      k < count →
      z ≡ side_of s (corner (first + k)) →
      Joins found z r →
      Found s corner first count r (k + 1)
  found_more {found} {r} {k} {z} f h e j =
      record {
        most = omega arith;
        sides =
            record {
              negative_is = j.negative_too ∙ ap₂ ◌||◌ f.sides.negative_is (ap (λ (x : ℤ). lt_z x (pos 0)) e) ∙ sym (first_corners corner (on_negative s) first k);
              positive_is = j.positive_too ∙ ap₂ ◌||◌ f.sides.positive_is (ap (λ (x : ℤ). lt_z (pos 0) x) e) ∙ sym (first_corners corner (on_positive s) first k);
            };
      }

-- ---- a patch held to a plane

pub held_found :
    {bytes : List ℕ} {l : Layout} {s : Plane} {k : ℕ} {run : Run} {found : Sides} (wanted : Sides) {b : Bool} →
    CornersAre bytes l k run → SidesAre s (map (corner_number bytes l) (range run.first run.count)) found →
    b ≡ (beq found.negative wanted.negative && beq found.positive wanted.positive) →
    b ≡ held s wanted (patch_numbered (decode bytes) k)
unfolding held
held_found wanted are sides h = h ∙ rw (sides.negative_is, sides.positive_is, are.corners_are)
