use mathlib.Core.Path.{◌∙◌}
use Rattle.rows.proofs.Laws.{work_laid}
use Rattle.rows_narrow.proofs.lay_every_fourth.Goals as goal

pub loop-column-preserved : goal.loop-column-preserved
loop-column-preserved c =
    let i = c.loop-column.invariant in
    (work_laid i.0 c.lay.ensures.laid c.lay.ensures.mapped, c.lay.auto.cells ∙ i.1)
