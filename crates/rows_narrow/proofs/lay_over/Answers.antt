-- `lay_over` is safe: a row and its words stay such as a span is laid.
use Rattle.rows.proofs.Laws.{work_laid}
use Rattle.rows_narrow.proofs.lay_over.Goals as goal

pub show-requires : goal.show-requires
show-requires c = work_laid c.requires c.lay.ensures.laid c.lay.ensures.mapped

pub returns : goal.returns
returns c = work_laid c.requires c.lay.ensures.laid c.lay.ensures.mapped
