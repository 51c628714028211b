-- `lay_spans` is safe: a fresh row is a row, and it and its words stay such as spans are laid.
use Rattle.std.proofs.Common.{refl, ◌∙◌, arith}
use Rattle.rows.proofs.Laws.{work_fresh, work_laid}
use Rattle.rows_laid.proofs.lay_spans.Goals as goal

pub loop-i-init : goal.loop-i-init
loop-i-init c = (work_fresh refl (omega (arith, c.requires.cells_len_bound)) c.fresh-row.ensures.fresh c.fresh-row.ensures.zeros, refl)

pub loop-i-preserved : goal.loop-i-preserved
loop-i-preserved c =
    let i = c.loop-i.invariant in
    let l = c.lay_and_write-written in
    (work_laid i.0 l.ensures.laid l.ensures.mapped, l.auto.cells ∙ i.1)
