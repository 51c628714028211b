use mathlib.Core.Path.{refl}
use native.Mathlib.Omega.{arith}
use Rattle.std.proofs.Common.{rules, tests}
use Rattle.std.proofs.lemmas.Iterator.{YieldsList-from_range}
use Rattle.std.proofs.lemmas.Iterator.Search.{all_from_yields_List}
use Rattle.convexity.proofs.PatchTables.{patches_asked}
use Rattle.convexity.proofs.patches_proper.Goals as goal

pub returns : goal.returns
returns c =
    let s = c.args.scene.now in
    patches_asked c.requires.laid
    (all_from_yields_List _ _ _ _ c.all.ensures.ran (YieldsList-from_range 0 s.layout.patches s.layout.patches refl (omega arith))
    (λ x b q k. search (rules, tests)))
