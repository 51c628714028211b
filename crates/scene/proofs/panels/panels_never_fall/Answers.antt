use mathlib.Core.Path.{refl, ap}
use mathlib.Core.Bool.{Bool}
use native.Mathlib.Omega.{arith}
use Rattle.std.proofs.Common.{rules, tests}
use Rattle.std.proofs.lemmas.Iterator.{YieldsList-from_range}
use Rattle.std.proofs.lemmas.Iterator.Search.{all_from_yields_List}
use Rattle.model.specs.Lists.{every}
use Rattle.model.specs.Format.{NodeRecord, decode}
use Rattle.model.specs.Questions.{panels_never_fall}
use Rattle.format.specs.Layout.{node_number}
use Rattle.format.proofs.Ranges.{all_numbered}
use Rattle.scene.specs.Tests.{run_never_falls}
use Rattle.scene.proofs.panels.panels_never_fall.Goals as goal

pub returns : goal.returns
unfolding panels_never_fall
returns c =
    let s = c.args.scene.now in
    let asked : NodeRecord → Bool = λ n. run_never_falls (decode s.bytes.now).patches n.patch_run in
    all_numbered asked (node_number s.bytes.now) 0 s.layout.nodes
    (all_from_yields_List _ _ _ _ c.all.ensures.ran (YieldsList-from_range 0 s.layout.nodes s.layout.nodes refl (omega arith)) (λ x b q k. search (rules, tests)))
    (ap (every asked) s.laid_out.nodes)
