-- `clear` meets its contract: the cells before cell i are 0.
use Rattle.cells.proofs.Clearing.{clear_starts, clear_goes, clear_ends}
use Rattle.cells.proofs.clear.Goals as goal

pub loop-i-init : goal.loop-i-init
loop-i-init c = clear_starts _

pub loop-i-preserved : goal.loop-i-preserved
loop-i-preserved c = clear_goes c.loop-i.invariant c.loop-i-test.true

pub returns : goal.returns
returns c = clear_ends c.loop-i.invariant c.loop-i-test.false
