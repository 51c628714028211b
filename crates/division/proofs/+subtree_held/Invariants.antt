-- The measure is the node count less the node's number.
use Prim.Native.Nat.{◌-◌}
use Rattle.division.proofs.+subtree_held.Given as goal

abbrev pub decreases-subtree_held : goal.decreases-subtree_held
decreases-subtree_held l = l.scene.now.layout.nodes - l.k
