-- `paint_eight` meets its contract: i cells are written, and of them those of the run are painted.
use native.Mathlib.Omega.{arith}
use Rattle.cells.proofs.Painting.{front_starts, front_goes, front_ends}
use Rattle.cells.proofs.paint_eight.Goals as goal

pub loop-i-init : goal.loop-i-init
loop-i-init c = front_starts _ _ _

pub loop-i-preserved : goal.loop-i-preserved
loop-i-preserved c = rw c.from-at.ensures (front_goes c.loop-i.invariant (omega arith) _ (rw c.from-at.ensures at c.chosen.ensures))

pub returns : goal.returns
returns c = front_ends c.loop-i.invariant (omega arith)
