-- `spans::beside_lit` meets its contract.
use mathlib.Core.Path.{subst, sym, ◌∙◌}
use borrow.Author.Rules.{rules}
use lib.IntN.{pos}
use lib.Signed.{◌<ℤ◌, ◌≤ℤ◌}
use Rattle.integer.proofs.Comparison.{comparisons}
use Rattle.spans.proofs.BesideLit.{beside_before, beside_after}
use Rattle.spans.proofs.RowFunctions.{words_number}
use Rattle.spans.proofs.beside_lit.Goals as goal
use Rattle.spans.proofs.beside_lit.Goals.{then-span-lit-2, else-span-lit-2}

pub returns-else-number_at-gt0 : goal.returns-else-number_at-gt0
returns-else-number_at-gt0 c =
    elim c.if-span-lit-2.branch [
      | then-span-lit-2 w ↦ absurd (search (rules, w.value-is))
      | else-span-lit-2 w ↦
          let not_above_after : w.number_at.result ≤ℤ pos 0 = search (comparisons, sym w.value-is ∙ c.if-number_at-gt0.false) in
          beside_before (let falls : c.args.slope <ℤ pos 0 = search comparisons in falls) (subst (◌≤ℤ pos 0) (w.number_at.ensures ∙ words_number c.requires.1 _) not_above_after) c.if-span-lit.false.1
    ]

pub returns-else-number_at-gt0-2 : goal.returns-else-number_at-gt0-2
returns-else-number_at-gt0-2 c =
    beside_after (let not_falls : pos 0 ≤ℤ c.args.slope = search comparisons in not_falls) (subst (◌≤ℤ pos 0) (c.number_at-else-slope-lt0.ensures ∙ words_number c.requires.1 _) (let not_above_before : c.number_at-else-slope-lt0.result ≤ℤ pos 0 = search comparisons in not_above_before)) c.if-span-lit.false.0
