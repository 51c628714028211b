-- `carry` meets its contract: each turn puts the pair in hand into pair k + i and takes in hand the one that stood there.
use mathlib.Core.Path.{◌≡◌}
use native.Mathlib.Omega.{arith}
use Rattle.pairs.proofs.Carrying.{carries_none, carries_more}
use Rattle.pairs.proofs.carry.Goals as goal

pub loop-i-init : goal.loop-i-init
loop-i-init c = carries_none _ _ _

pub loop-i-preserved : goal.loop-i-preserved
loop-i-preserved c = carries_more c.loop-i.invariant (omega arith) c.pair_at-q.ensures c.set_pair.ensures

pub returns : goal.returns
returns c = let e : c.loop-i.i ≡ c.args.n = omega arith in rw e at c.loop-i.invariant
