-- The measure is the node count less the node's number: children have higher numbers.
use Prim.Native.Nat.{◌-◌}
use Rattle.walk.proofs.order.+walk_below.Given as goal

abbrev pub decreases-walk_below : goal.decreases-walk_below
decreases-walk_below l = l.scene.now.layout.nodes - l.k
