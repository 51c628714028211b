use Rattle.format.specs.Layout.{node_number}
use Rattle.children.proofs.Named.{none_counted, one_counted, all_counted_lem}
use Rattle.children.proofs.times_named.Goals as goal

pub loop-k-init : goal.loop-k-init
loop-k-init c = none_counted _ _

pub loop-k-preserved : goal.loop-k-preserved
loop-k-preserved c =
    one_counted (node_number _) c.loop-k-test.true c.loop-k.invariant c.node-m.ensures
    c.count_child.ensures c.count_child-in-loop-k.ensures

pub returns : goal.returns
returns c = all_counted_lem c.args.scene.now.laid_out c.loop-k.invariant c.loop-k-test.false
