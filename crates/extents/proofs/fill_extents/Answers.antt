-- `extents::fill_extents` meets its contract: while the loop runs, the extents from node k on stand in the list.
use Rattle.extents.proofs.NodeBoxes.{filling_more}
use Rattle.extents.proofs.fill_extents.Goals as goal

pub loop-k-preserved : goal.loop-k-preserved
loop-k-preserved c = filling_more c.loop-k-test.true c.loop-k.auto.k c.loop-k.invariant c.node_extent-e.ensures
