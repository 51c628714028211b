-- `remove` meets its contract: eight pairs at a time, until an unused one was moved.
use native.Mathlib.Omega.{arith}
use Rattle.pairs.proofs.Shifting.{remove_starts, remove_ends, remove_goes, remove_closes}
use Rattle.pairs.proofs.remove.Goals as goal

pub loop-j-init : goal.loop-j-init
loop-j-init c = remove_starts _ _

pub returns-then-shift-eq0 : goal.returns-then-shift-eq0
returns-then-shift-eq0 c = remove_ends c.loop-j.invariant c.shift.ensures c.if-shift-eq0.true

pub loop-j-preserved : goal.loop-j-preserved
loop-j-preserved c = remove_goes c.loop-j.invariant c.shift.ensures _ (omega arith)

pub returns : goal.returns
returns c = remove_closes _ _ c.loop-j.invariant c.shift-2.ensures (omega arith) (omega arith) c.set_pair.ensures
