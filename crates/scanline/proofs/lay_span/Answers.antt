-- `lay_span` meets its contract.
use Rattle.scanline.proofs.Columns.{span_laid, span_missed}
use Rattle.scanline.proofs.lay_span.Goals as goal

pub returns-then-end-first : goal.returns-then-end-first
returns-then-end-first c = span_missed c.if-end-first.true

pub returns : goal.returns
returns c = span_laid c.if-end-first.false c.lay-laid.ensures.laid c.lay-laid.ensures.reported c.lay-laid.ensures.mapped
