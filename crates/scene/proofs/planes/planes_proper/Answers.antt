use mathlib.Core.Path.{refl, ap}
use native.Mathlib.Omega.{arith}
use Rattle.std.proofs.Common.{rules, tests}
use Rattle.std.proofs.lemmas.Iterator.{YieldsList-from_range, serves_from_Range}
use Rattle.std.proofs.lemmas.Iterator.Search.{all_from_yields_List}
use Rattle.model.specs.Lists.{every}
use Rattle.model.specs.Format.{NodeRecord}
use Rattle.model.specs.Questions.{off_one_line, planes_proper}
use Rattle.format.specs.Layout.{node_number}
use Rattle.format.proofs.Ranges.{all_numbered}
use Rattle.scene.proofs.OffOneLine.{node_bounded}
use Rattle.scene.proofs.planes.planes_proper.Goals as goal

pub all-requires-clause-callable : goal.all-requires-clause-callable
all-requires-clause-callable c = serves_from_Range (λ x q r. search rules) (λ x a b.
    (λ κs p g e r v. b, λ κs p g e r n v. node_bounded c.args.scene.now.laid_out c.requires b n.ensures))

pub returns : goal.returns
unfolding planes_proper
returns c =
    let s = c.args.scene.now in
    all_numbered (λ (n : NodeRecord). off_one_line n.plane) (node_number s.bytes.now) 0 s.layout.nodes
    (all_from_yields_List _ _ _ _ c.all.ensures.ran (YieldsList-from_range 0 s.layout.nodes s.layout.nodes refl (omega arith)) (λ x b q k. search (rules, tests)))
    (ap (every (λ (n : NodeRecord). off_one_line n.plane)) s.laid_out.nodes)
