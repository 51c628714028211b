-- Extents: two boxes that bound some patches, and the list of the extents of all nodes.
use mathlib.Core.List.{List, Memᴰ}
use Rattle.std.specs.Prelude.{ℕ, ◌≤◌, ◌<◌, ℤ, pos, ◌≤ℤ◌, length, get_or}
use Rattle.model.specs.Vector.{Vec}
use Rattle.model.specs.Patch.{Patch}
use Rattle.boxes.specs.Boxes.{InBox, BoxBounded}
use Rattle.boxes.specs.declared.Bounds.{Bounds}
use Rattle.boxes.specs.declared.Corner.{Corner}
use Rattle.boxes.specs.declared.Extent.{Extent}

-- along an axis the patch reaches up to `high` and down to `low`
pub record Along (axis : Vec → ℤ) (low high : ℤ) (p : Patch) : Type 0 where
  pub up : (c : Vec) × Memᴰ c p.corners × (high ≤ℤ axis c)
  pub down : (c : Vec) × Memᴰ c p.corners × (axis c ≤ℤ low)

-- all corners of the patch lie in the outer box, and along each axis it reaches the ends of the inner one
pub record Encloses (e : Extent) (p : Patch) : Type 0 where
  pub corners_in : (c : Vec) → Memᴰ c p.corners → InBox e.outer c
  pub x_along : Along (λ (c : Vec). c.x) e.inner.low.x e.inner.high.x p
  pub y_along : Along (λ (c : Vec). c.y) e.inner.low.y e.inner.high.y p
  pub z_along : Along (λ (c : Vec). c.z) e.inner.low.z e.inner.high.z p

-- what stands for the extent past a list's end
abbrev pub nowhere : Extent
nowhere =
    let c : Corner = record { x = pos 0; y = pos 0; z = pos 0 } in
    let b : Bounds = record { low = c; high = c } in
    record { outer = b; inner = b }

pub record ExtentBounded (e : Extent) : Type 0 where
  pub outer_bounded : BoxBounded e.outer
  pub inner_bounded : BoxBounded e.inner

-- the extent of node k
abbrev pub extent_at : List Extent → ℕ → Extent
extent_at boxes k = get_or boxes k nowhere

-- the list has room for all nodes, and the extent of k, where that is a node, is bounded
pub record ChildExtent (nodes k : ℕ) (boxes : List Extent) : Type 0 where
  pub room : nodes ≤ length boxes
  pub child : k < nodes → ExtentBounded (extent_at boxes k)
