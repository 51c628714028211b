use mathlib.Core.Path.{◌≡◌, refl, ◌∙◌}
use mathlib.Core.Bool.{Bool}
use Prim.Native.Nat.{ℕ}
use native.Mathlib.Omega.{arith}
use Rattle.std.proofs.Common.{rules, tests}
use Rattle.std.specs.List.{list_all, range_with_len}
use Rattle.std.proofs.lemmas.Iterator.{YieldsList-from_range}
use Rattle.std.proofs.lemmas.Iterator.Search.{all_from_yields_List}
use Rattle.model.specs.Questions.{within}
use Rattle.format.specs.Layout.{patch_number}
use Rattle.format.proofs.Ranges.{every_of_range}
use Rattle.scene.proofs.RunTables.{counts_asked}
use Rattle.scene.proofs.runs.all_counted.Goals as goal

pub returns : goal.returns
returns c =
    let s = c.args.scene.now in
    let counted : ℕ → Bool = λ k. within 3 8 (patch_number s.bytes.now s.layout k).corner_run.count in
    let asked : c.all.result ≡ list_all counted (range_with_len 0 s.layout.patches) =
    all_from_yields_List _ _ _ _ c.all.ensures.ran (YieldsList-from_range 0 s.layout.patches s.layout.patches refl (omega arith)) (λ x b q k. search (rules, tests)) in
    asked ∙ every_of_range counted 0 s.layout.patches ∙ counts_asked s.laid_out c.requires
