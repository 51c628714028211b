-- Question 9 at one node, and what is known where it is asked.
use Rattle.std.specs.Prelude.{Bool, ◌&&◌, List, map, ℕ, ◌+◌, ◌≤◌}
use Rattle.model.specs.Lists.{every, range}
use Rattle.model.specs.Vector as model
use Rattle.model.specs.Vector.{turned_over}
use Rattle.model.specs.Patch.{lies_on}
use Rattle.model.specs.Tree.{contents, lies_positive}
use Rattle.model.specs.Format.{decode, patch_numbered}
use Rattle.geometry.specs.Machine.{plane_of}
use Rattle.format.specs.declared.records.Node.{Node}
use Rattle.format.specs.declared.layout.Layout.{Layout}
use Rattle.boxes.specs.declared.Extent.{Extent}
use Rattle.checked.specs.Checked.{PointsBounded, tree_below}
use Rattle.extents.specs.Extents.{ExtentsFrom}
use Rattle.halfspaces.specs.Sides.{PlaneBounded}
use Rattle.halfspaces.specs.declared.planes.Plane.{Plane}

-- the extents of all nodes, and a plane that the patches are held against
pub record Against (bytes : List ℕ) (l : Layout) (r : Plane) (boxes : List Extent) : Type 0 where
  pub plane_bounded : PlaneBounded r
  pub extents : ExtentsFrom bytes l 0 boxes

-- the extents of all nodes, and one of the nodes
pub record NodeAsked (bytes : List ℕ) (l : Layout) (n : Node) (boxes : List Extent) : Type 0 where
  pub extents : ExtentsFrom bytes l 0 boxes
  pub points : PointsBounded n
  pub run_inside : n.patches.first + n.patches.count ≤ l.patches

-- question 9 at one node: its own patches, and those below each child
unfoldable pub node_divides : List ℕ → Node → Bool
node_divides bytes n =
    let s : model.Plane = plane_of n.a n.b n.c in
    every (lies_on s) (map (patch_numbered (decode bytes)) (range n.patches.first n.patches.count))
    && every (lies_positive s) (map (patch_numbered (decode bytes)) (contents (tree_below bytes n.positive)))
    && every (lies_positive (turned_over s)) (map (patch_numbered (decode bytes)) (contents (tree_below bytes n.negative)))
