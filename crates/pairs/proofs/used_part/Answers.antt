-- `used_part` meets its contract: the pairs before number k are used.
use native.Mathlib.Omega.{arith}
use lib.ListN.{length-take}
use Rattle.pairs.proofs.Used.{used_starts, used_over, used_ends, used_goes}
use Rattle.pairs.proofs.used_part.Goals as goal

pub loop-k-init : goal.loop-k-init
loop-k-init c = used_starts _

pub slice_bounds-result-end : goal.slice_bounds-result-end
slice_bounds-result-end c = simp length-take (omega arith)

pub returns-then-row-k-eq0 : goal.returns-then-row-k-eq0
returns-then-row-k-eq0 c = used_ends c.requires c.loop-k.invariant (omega arith) c.if-row-k-eq0.true

pub loop-k-preserved : goal.loop-k-preserved
loop-k-preserved c = used_goes c.requires c.loop-k.invariant (omega arith) c.if-row-k-eq0.false

pub returns : goal.returns
returns c = used_over c.requires c.loop-k.invariant (omega arith)
