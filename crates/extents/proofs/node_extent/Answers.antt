-- `extents::node_extent` meets its contract.
use native.Mathlib.Omega.{arith}
use Rattle.extents.proofs.NodeBoxes.{node_enclosed}
use Rattle.extents.proofs.node_extent.Goals as goal

pub returns : goal.returns
returns c =
    let h = c.requires in
    node_enclosed h.below c.args.scene.now.checked (omega arith) c.node-n.ensures c.patches_extent-own.ensures c.with_child-front.ensures
    c.with_child.ensures
