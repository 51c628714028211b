-- `lay_over` is safe: a row and its words stay such as a span is laid.
use Rattle.rows.proofs.Laws.{work_laid}
use Rattle.rows_demo.proofs.lay_over.Goals as goal

pub returns : goal.returns
returns c = work_laid c.requires c.lay_and_write-written.ensures.laid c.lay_and_write-written.ensures.mapped
