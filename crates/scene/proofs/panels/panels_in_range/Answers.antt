use mathlib.Core.Path.{refl, ap}
use native.Mathlib.Omega.{arith}
use Rattle.std.proofs.Common.{rules, tests}
use Rattle.std.proofs.lemmas.Iterator.{YieldsList-from_range}
use Rattle.std.proofs.lemmas.Iterator.Search.{all_from_yields_List}
use Rattle.model.specs.Lists.{every}
use Rattle.model.specs.Questions.{panels_in_range}
use Rattle.format.specs.Layout.{patch_number}
use Rattle.format.proofs.Ranges.{all_numbered}
use Rattle.scene.specs.Tests.{panel_in_range}
use Rattle.scene.proofs.panels.panels_in_range.Goals as goal

pub returns : goal.returns
unfolding panels_in_range
returns c =
    let s = c.args.scene.now in
    all_numbered panel_in_range (patch_number s.bytes.now s.layout) 0 s.layout.patches
    (all_from_yields_List _ _ _ _ c.all.ensures.ran (YieldsList-from_range 0 s.layout.patches s.layout.patches refl (omega arith)) (λ x b q k. search (rules, tests)))
    (ap (every panel_in_range) s.laid_out.patches)
