-- `spans::keeps_all` meets its contract: it asks for the number where it is least.
use mathlib.Core.Path.{subst, ◌∙◌}
use lib.IntN.{pos}
use lib.Signed.{◌<ℤ◌, ◌≤ℤ◌}
use Rattle.integer.proofs.Comparison.{comparisons}
use Rattle.spans.specs.Span.{number_at}
use Rattle.spans.proofs.Clipping.{whole_rising, whole_falling}
use Rattle.spans.proofs.RowFunctions.{words_number}
use Rattle.spans.proofs.keeps_all.Goals as goal
use Rattle.spans.proofs.keeps_all.Goals.{then-slope-lt0, else-slope-lt0}

pub returns : goal.returns
returns c e =
    let b = c.requires in
    let above : pos 0 <ℤ number_at c.args.slope c.args.start c.if-slope-lt0.least = subst (pos 0 <ℤ◌) (c.number_at.ensures ∙ words_number b.1 _) (let number_above : pos 0 <ℤ c.number_at.result = search comparisons in number_above) in
    elim c.if-slope-lt0.branch [
      | then-slope-lt0 w ↦ whole_falling b.0.some (let falls : c.args.slope <ℤ pos 0 = search (comparisons, w.if-slope-lt0.true) in falls) (subst (λ i. pos 0 <ℤ number_at c.args.slope c.args.start i) w.least-is above)
      | else-slope-lt0 w ↦ whole_rising b.0.some (let not_falls : pos 0 ≤ℤ c.args.slope = search (comparisons, w.if-slope-lt0.false) in not_falls) (subst (λ i. pos 0 <ℤ number_at c.args.slope c.args.start i) w.least-is above)
    ]
