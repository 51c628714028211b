-- `shift` meets its contract: each turn moves the next pair into the gap, which is then one further.
use native.Mathlib.Omega.{arith}
use Rattle.pairs.proofs.Shifting.{shifts_none, shifts_more}
use Rattle.pairs.proofs.shift.Goals as goal

pub loop-i-init : goal.loop-i-init
loop-i-init c = shifts_none _ _ _

pub loop-i-preserved : goal.loop-i-preserved
loop-i-preserved c = shifts_more c.loop-i.invariant (omega arith) c.pair_at-p.ensures c.set_pair.ensures
