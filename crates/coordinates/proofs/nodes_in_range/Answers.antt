use mathlib.Core.Path.{refl, ap}
use native.Mathlib.Omega.{arith}
use Rattle.std.proofs.Common.{rules, tests}
use Rattle.std.proofs.lemmas.Iterator.{YieldsList-from_range}
use Rattle.std.proofs.lemmas.Iterator.Search.{all_from_yields_List}
use Rattle.model.specs.Lists.{every}
use Rattle.model.specs.Format.{NodeRecord}
use Rattle.model.specs.Questions.{plane_in_range}
use Rattle.format.specs.Layout.{node_number}
use Rattle.format.proofs.Ranges.{all_numbered}
use Rattle.coordinates.proofs.nodes_in_range.Goals as goal

pub returns : goal.returns
returns c =
    let s = c.args.scene.now in
    all_numbered (λ (n : NodeRecord). plane_in_range n.plane) (node_number s.bytes.now) 0 s.layout.nodes
    (all_from_yields_List _ _ _ _ c.all.ensures.ran (YieldsList-from_range 0 s.layout.nodes s.layout.nodes refl (omega arith)) (λ x b q k. search (rules, tests)))
    (ap (every (λ (n : NodeRecord). plane_in_range n.plane)) s.laid_out.nodes)
