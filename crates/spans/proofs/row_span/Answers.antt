-- `spans::row_span` meets its contract.
use Rattle.spans.proofs.Rows.{narrowed_more, narrowed_all}
use Rattle.spans.proofs.row_span.Goals as goal

pub loop-f-preserved : goal.loop-f-preserved
loop-f-preserved c = narrowed_more c.loop-f.invariant _ c.loop-f-test.true c.clip_function-span.ensures

pub returns : goal.returns
returns c = narrowed_all c.loop-f.invariant c.loop-f-test.false
