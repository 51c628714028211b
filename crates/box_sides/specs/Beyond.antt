-- A box and a plane: when an extent answers for all its patches.
use Rattle.std.specs.Prelude.{◌≡◌, ◌⊎◌, Bool, true, false, List, ℕ, ◌<◌, ℤ, pos, neg_ℤ, ◌<ℤ◌, ◌≤ℤ◌}
use Rattle.model.specs.Patch.{Patch}
use Rattle.geometry.specs.Machine.{vec_of}
use Rattle.geometry.specs.declared.Vector.{Vector}
use Rattle.boxes.specs.Boxes.{wide}
use Rattle.boxes.specs.Enclosed.{Encloses, extent_at}
use Rattle.boxes.specs.declared.Bounds.{Bounds}
use Rattle.boxes.specs.declared.Corner.{Corner}
use Rattle.boxes.specs.declared.Extent.{Extent}
use Rattle.halfspaces.specs.Sides.{side_of, held}
use Rattle.halfspaces.specs.declared.planes.Plane.{Plane}
use Rattle.halfspaces.specs.declared.planes.Sides.{Sides}

-- the end of an axis where n · c is least: low where n is not negative, high where it is not positive
pub data EndBy (n low high r : ℤ) : Type 0 where
  rising : pos 0 ≤ℤ n → r ≡ low → EndBy n low high r
  falling : n ≤ℤ pos 0 → r ≡ high → EndBy n low high r

pub record CornerBy (normal : Vector) (low high r : Corner) : Type 0 where
  pub x_end : EndBy normal.x low.x high.x r.x
  pub y_end : EndBy normal.y low.y high.y r.y
  pub z_end : EndBy normal.z low.z high.z r.z

-- along an axis that the normal is not square to, no patch lies in an end of the outer box
pub record Free (n low high inner_low inner_high : ℤ) : Type 0 where
  pub slanted : (n <ℤ pos 0) ⊎ (pos 0 <ℤ n)
  pub up : low <ℤ inner_high
  pub down : inner_low <ℤ high

pub record FreeAxis (n low high inner_low inner_high : ℤ) (r : Bool) : Type 0 where
  pub says : r ≡ true → Free n low high inner_low inner_high

-- there is such an axis
pub data SomeFree (e : Extent) (normal : Vector) : Type 0 where
  x_free : Free normal.x e.outer.low.x e.outer.high.x e.inner.low.x e.inner.high.x → SomeFree e normal
  y_free : Free normal.y e.outer.low.y e.outer.high.y e.inner.low.y e.inner.high.y → SomeFree e normal
  z_free : Free normal.z e.outer.low.z e.outer.high.z e.inner.low.z e.inner.high.z → SomeFree e normal

pub record FreeSays (e : Extent) (normal : Vector) (r : Bool) : Type 0 where
  pub says : r ≡ true → SomeFree e normal

-- r is the number of the box's corner that the normal chooses: its side number for the front, else the opposite
pub record LeastNumber (b : Bounds) (s : Plane) (front : Bool) (r : ℤ) : Type 0 where
  pub in_front : front ≡ true → (m : Corner) × CornerBy s.normal b.low b.high m × (side_of s (vec_of (wide m)) ≡ r)
  pub behind : front ≡ false → (m : Corner) × CornerBy s.normal b.high b.low m × (neg_ℤ (side_of s (vec_of (wide m))) ≡ r)

-- yes is said only where every patch enclosed is held
pub record AllHeld (e : Extent) (s : Plane) (wanted : Sides) (r : Bool) : Type 0 where
  pub says : r ≡ true → (p : Patch) → Encloses e p → held s wanted p ≡ true

-- no is said only where there is a node k, and yes only where every patch in its extent is held
pub record Settled (nodes k : ℕ) (boxes : List Extent) (s : Plane) (wanted : Sides) (r : Bool) : Type 0 where
  pub a_node : r ≡ false → k < nodes
  pub says : r ≡ true → k < nodes → (p : Patch) → Encloses (extent_at boxes k) p → held s wanted p ≡ true
