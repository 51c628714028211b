use mathlib.Core.Path.{◌≡◌, refl, ◌∙◌}
use mathlib.Core.Bool.{Bool}
use Prim.Native.Nat.{ℕ, ◌-◌}
use lib.Dec.{eqb}
use lib.ListN.{get_or}
use Rattle.std.proofs.Common.{rules, tests}
use Rattle.std.proofs.lemmas.Iterator.{YieldsList-from_range}
use Rattle.std.proofs.lemmas.Iterator.Search.{all_from_yields_List}
use Rattle.std.specs.List.{list_all, range_with_len}
use Rattle.format.proofs.Ranges.{every_of_range}
use Rattle.children.proofs.each_once.Goals as goal

pub returns : goal.returns
returns c =
    let once : ℕ → Bool = λ k. eqb (get_or c.args.times.now k 0) 1 in
    let asked : c.all.result ≡ list_all once (range_with_len 1 (c.args.nodes - 1)) =
    all_from_yields_List _ _ _ _ c.all.ensures.ran (YieldsList-from_range 1 c.args.nodes (c.args.nodes - 1) refl refl) (λ x b q k. search (rules, tests)) in
    asked ∙ every_of_range once 1 (c.args.nodes - 1)
