-- `segments_before` meets its contract: the first k segments end before the column.
use mathlib.Core.Path.{◌≡◌}
use native.Mathlib.Omega.{arith}
use Rattle.laying.proofs.Passing.{before_none, before_out, before_ends, before_stops, before_more}
use Rattle.laying.proofs.segments_before.Goals as goal
use Rattle.laying.proofs.segments_before.Goals.{then-p-eq0-via-then-p-eq0, then-p-eq0-via-else-p-eq0+then-from}

pub loop-k-init : goal.loop-k-init
loop-k-init c = before_none _ _

pub returns-then-p-eq0 : goal.returns-then-p-eq0
returns-then-p-eq0 c =
    elim c.then-p-eq0.branch [
      | then-p-eq0-via-then-p-eq0 w ↦ before_ends c.loop-k.invariant c.pair_at-p.ensures w.if-p-eq0.true
      | then-p-eq0-via-else-p-eq0+then-from w ↦ before_stops c.loop-k.invariant c.pair_at-p.ensures (omega arith)
    ]

pub loop-k-preserved : goal.loop-k-preserved
loop-k-preserved c = before_more c.loop-k.invariant c.pair_at-p.ensures (omega (arith, c.loop-k-test.true)) c.if-p-eq0.false (omega arith)

pub returns : goal.returns
returns c = let e : c.loop-k.k ≡ 128 = omega arith in rw e at (before_out c.loop-k.invariant c.loop-k-test.false)
