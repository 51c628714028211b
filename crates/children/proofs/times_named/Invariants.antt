use Rattle.format.specs.Layout.{node_number}
use Rattle.children.proofs.Named.{Counted}
use Rattle.children.proofs.times_named.Given as goal

abbrev pub invariant-loop-k : goal.invariant-loop-k
invariant-loop-k l = Counted (node_number l.scene.bytes.now) l.scene.layout.nodes l.times l.k
