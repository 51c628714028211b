-- `division::nodes_divide` meets its contract.
use mathlib.Core.Path.{ap, ◌∙◌}
use Rattle.division.specs.Division.{node_divides}
use Rattle.model.specs.Format.{NodeRecord}
use Rattle.model.proofs.Loops.{refused, accepted}
use Rattle.division.proofs.EveryNode.{in_hand, nodes_asked}
use Rattle.division.proofs.nodes_divide.Goals as goal

pub returns-then-not-node_divides : goal.returns-then-not-node_divides
returns-then-not-node_divides c =
    refused (nodes_asked c.args.scene.now.checked) c.loop-k-test.true
    (c.node_divides.ensures ∙ ap (λ (n : NodeRecord). node_divides c.args.scene.now.bytes.now (in_hand n)) c.node.ensures.value) c.if-not-node_divides.true

pub returns : goal.returns
returns c = accepted (nodes_asked c.args.scene.now.checked) c.loop-k.invariant c.loop-k-test.false
