-- `clear_table` meets its contract: the entries before entry n are 0.
use Rattle.cells.proofs.Clearing.{clear_starts, clear_goes, clear_ends}
use Rattle.cells.proofs.clear_table.Goals as goal

pub loop-n-init : goal.loop-n-init
loop-n-init c = clear_starts _

pub loop-n-preserved : goal.loop-n-preserved
loop-n-preserved c = clear_goes c.loop-n.invariant c.loop-n-test.true

pub returns : goal.returns
returns c = clear_ends c.loop-n.invariant c.loop-n-test.false
