-- `insert` meets its contract: eight pairs at a time, until an unused one comes into hand.
use native.Mathlib.Omega.{arith}
use Rattle.pairs.proofs.Carrying.{insert_starts, insert_ends, insert_goes, insert_settles}
use Rattle.pairs.proofs.insert.Goals as goal

pub loop-j-init : goal.loop-j-init
loop-j-init c = insert_starts _ _ _

pub returns-then-p-eq0 : goal.returns-then-p-eq0
returns-then-p-eq0 c = insert_ends c.loop-j.invariant c.carry-p.ensures c.if-p-eq0.true

pub loop-j-preserved : goal.loop-j-preserved
loop-j-preserved c = insert_goes c.loop-j.invariant c.carry-p.ensures _ (omega arith)

pub returns : goal.returns
returns c = insert_settles _ _ c.loop-j.invariant c.carry.ensures (λ h. omega arith) (omega arith)
