-- The extents of the nodes: boxes that bound the corners of the patches at and below them.
use mathlib.Core.List.{List, Memᴰ}
use Rattle.std.specs.Prelude.{ℕ, ◌+◌, ◌≤◌, ◌<◌, length}
use Rattle.model.specs.Patch.{Patch}
use Rattle.model.specs.Tree.{contents}
use Rattle.model.specs.Format.{decode, patch_numbered}
use Rattle.format.specs.Layout.{corner_number}
use Rattle.format.specs.declared.layout.Layout.{Layout}
use Rattle.checked.specs.Checked.{tree_below}
use Rattle.boxes.specs.Boxes.{InBox, Covers}
use Rattle.boxes.specs.Enclosed.{Encloses, ExtentBounded, extent_at}
use Rattle.boxes.specs.declared.Bounds.{Bounds}
use Rattle.boxes.specs.declared.Extent.{Extent}

-- ---- what a run of corners or patches takes up

-- b widened to r, which takes in the first i things of a run
pub record Widened {X : Type 0} (wider : X → X → Type 0) (good : X → Type 0) (takes : X → ℕ → Type 0) (b r : X) (i : ℕ) : Type 0 where
  pub covers : wider b r
  pub bounded : good r
  pub each : (j : ℕ) → j < i → takes r j

-- the corners from `first` on
abbrev pub takes_corner : List ℕ → Layout → ℕ → Bounds → ℕ → Type 0
takes_corner bytes l first b j = InBox b (corner_number bytes l (first + j))

-- what e encloses r encloses
pub record Wider (e r : Extent) : Type 0 where
  pub outer_covers : Covers e.outer r.outer
  pub inner_covers : Covers r.inner e.inner

-- the patches from `first` on
abbrev pub takes_patch : List ℕ → ℕ → Extent → ℕ → Type 0
takes_patch bytes first e j = Encloses e (patch_numbered (decode bytes) (first + j))

-- e widened to r, which encloses the patch
pub record PatchTaken (e r : Extent) (p : Patch) : Type 0 where
  pub wider : Wider e r
  pub bounded : ExtentBounded r
  pub encloses : Encloses r p

-- ---- the extents of all nodes

-- every patch at and below node k is enclosed
pub record ExtentOf (bytes : List ℕ) (k : ℕ) (e : Extent) : Type 0 where
  pub bounded : ExtentBounded e
  pub encloses : (j : ℕ) → Memᴰ j (contents (tree_below bytes k)) → Encloses e (patch_numbered (decode bytes) j)

-- the nodes from number `first` on have their extents in the list
pub record ExtentsFrom (bytes : List ℕ) (l : Layout) (first : ℕ) (boxes : List Extent) : Type 0 where
  pub room : l.nodes ≤ length boxes
  pub each : (k : ℕ) → first ≤ k → k < l.nodes → ExtentOf bytes k (extent_at boxes k)

-- node k of a scene whose nodes after it have their extents in the list
pub record NodeAsked (bytes : List ℕ) (l : Layout) (k : ℕ) (boxes : List Extent) : Type 0 where
  pub a_node : k < l.nodes
  pub below : ExtentsFrom bytes l (k + 1) boxes

-- e widened to r by the extent of a child, where the child is a node
pub record ChildJoined (nodes k : ℕ) (boxes : List Extent) (e r : Extent) : Type 0 where
  pub wider : Wider e r
  pub wider_child : k < nodes → Wider (extent_at boxes k) r
  pub bounded : ExtentBounded r
