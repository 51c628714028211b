-- What is below the near child, the node's own run, and what is below the far child, one after the other.
use Rattle.std.proofs.Common.{arith, length, ap}
use Rattle.std.proofs.lemmas.Grind.{common_steps}
use Rattle.model.proofs.Ranges.{range_length}
use Rattle.geometry.specs.Machine.{vec_of}
use Rattle.checked.proofs.Nodes.{no_node}
use Rattle.walk.proofs.Descents.{descent, assembled, nothing_below}
use Rattle.walk.proofs.order.+walk_below.Goals as goal

pub walk_below-requires : goal.walk_below-requires
walk_below-requires t c =
    let d = descent c.node-n.ensures c.near_first-c.ensures in
    (omega (arith, d.near_above, c.decreases, c.if-k-scene.true), (c.requires.0, omega (arith, d.size, c.requires.1)))

pub walk_run-requires : goal.walk_run-requires
walk_run-requires t c =
    let d = descent c.node-n.ensures c.near_first-c.ensures in
    let near = ap length c.walk_below.ensures in
    (omega (arith, c.node-n.ensures.run_inside, c.args.scene.now.checked.laid.few_patches), grind (arith, common_steps, d.size))

pub walk_below-requires-then-k-scene : goal.walk_below-requires-then-k-scene
walk_below-requires-then-k-scene t c =
    let d = descent c.node-n.ensures c.near_first-c.ensures in
    let near = ap length c.walk_below.ensures in
    let own = ap length c.walk_run.ensures in
    let count = range_length c.node-n.result.patches.first c.node-n.result.patches.count in
    (omega (arith, d.far_above, c.decreases, c.if-k-scene.true), (c.requires.0, grind (arith, common_steps, d.size)))

pub returns-then-k-scene : goal.returns-then-k-scene
returns-then-k-scene t c =
    assembled c.args.walked.now.items (descent c.node-n.ensures c.near_first-c.ensures) c.walk_below.ensures c.walk_run.ensures c.walk_below-then-k-scene.ensures

pub returns-else-k-scene : goal.returns-else-k-scene
returns-else-k-scene t c =
    let nothing = nothing_below (vec_of c.args.eye) (no_node _ c.args.scene.now.layout c.args.scene.now.checked c.args.k c.if-k-scene.false) in
    grind (arith, common_steps)
