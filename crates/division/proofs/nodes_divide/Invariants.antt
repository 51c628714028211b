-- `division::nodes_divide` meets its contract.
use Prim.Native.Nat.{ℕ}
use Rattle.division.specs.Division.{node_divides}
use Rattle.model.proofs.Loops.{Passed}
use Rattle.division.proofs.EveryNode.{node_in_hand}
use Rattle.division.proofs.nodes_divide.Given as goal

abbrev pub invariant-loop-k : goal.invariant-loop-k
invariant-loop-k l = Passed l.scene.layout.nodes (λ (j : ℕ). node_divides l.scene.bytes.now (node_in_hand l.scene.bytes.now j)) l.k
