-- `lay_on` meets its contract: the columns that the span and the segment share are painted and leave the row, if there are any.
use native.Mathlib.Omega.{arith}
use Rattle.stepping.proofs.Stepping.{overlaps, run_placed, steps_met, steps_missed}
use Rattle.stepping.proofs.lay_on.Goals as goal

-- the cells from `from` to `to` are a run of the row's

pub overflow_sub-lit : goal.overflow_sub-lit
overflow_sub-lit c =
    omega (arith, run_placed c.requires c.pair_at-p.ensures c.action_for-a.ensures c.max-from.ensures c.min-to.ensures c.if-a.true)

pub paint-requires : goal.paint-requires
paint-requires c = run_placed c.requires c.pair_at-p.ensures c.action_for-a.ensures c.max-from.ensures c.min-to.ensures c.if-a.true

pub keep-requires : goal.keep-requires
keep-requires c = overlaps c.requires c.pair_at-p.ensures c.action_for-a.ensures c.if-a.true

pub returns-else-a : goal.returns-else-a
returns-else-a c =
    steps_missed c.requires c.pair_at-p.ensures c.action_for-a.ensures c.from.ensures c.if-a.false

pub returns-then-a : goal.returns-then-a
returns-then-a c =
    steps_met c.requires c.pair_at-p.ensures c.action_for-a.ensures c.from.ensures c.max-from.ensures c.min-to.ensures
    c.if-a.true c.paint.ensures c.keep.ensures
