use mathlib.Core.Path.{refl, ap}
use native.Mathlib.Omega.{arith}
use Rattle.std.proofs.Common.{rules, tests}
use Rattle.std.proofs.lemmas.Iterator.{YieldsList-from_range}
use Rattle.std.proofs.lemmas.Iterator.Search.{all_from_yields_List}
use Rattle.model.specs.Lists.{every}
use Rattle.model.specs.Questions.{point_in_range}
use Rattle.format.specs.Layout.{corner_number}
use Rattle.format.proofs.Ranges.{all_numbered}
use Rattle.coordinates.proofs.corners_in_range.Goals as goal

pub returns : goal.returns
returns c =
    let s = c.args.scene.now in
    all_numbered point_in_range (corner_number s.bytes.now s.layout) 0 s.layout.corners
    (all_from_yields_List _ _ _ _ c.all.ensures.ran (YieldsList-from_range 0 s.layout.corners s.layout.corners refl (omega arith)) (λ x b q k. search (rules, tests)))
    (ap (every point_in_range) s.laid_out.corners)
