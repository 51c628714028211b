-- `sweep` meets its contract: before each turn the span has been laid on the segments before number k.
use mathlib.Core.Path.{◌≡◌}
use native.Mathlib.Omega.{arith}
use Rattle.std.proofs.lemmas.Bool.{not-false, not-true}
use Rattle.laying.proofs.Passing.{passes}
use Rattle.laying.proofs.Sweeps.{sweep_ends, sweep_out, sweep_reached, sweep_fits, sweep_stops, sweep_goes}
use Rattle.laying.proofs.sweep.Goals as goal

pub loop-looked-init : goal.loop-looked-init
loop-looked-init c =
    let h = c.requires in
    passes _ _ _ h.0 h.1 c.segments_before-before.ensures

pub shape_of-cells-then-p-eq0 : goal.shape_of-cells-then-p-eq0
shape_of-cells-then-p-eq0 c = c.loop-looked.invariant.on.width

pub returns-then-p-eq0 : goal.returns-then-p-eq0
returns-then-p-eq0 c =
    let w = sweep_ends c.requires.0 c.pair_at-p.ensures c.loop-looked.invariant.on c.if-p-eq0.true in
    record { laid = w.0; counted = w.1.0; looked = w.1.1 }

pub lay_on-s-requires : goal.lay_on-s-requires
lay_on-s-requires c = sweep_reached c.requires.0 c.pair_at-p.ensures c.loop-looked.invariant.on c.loop-looked-test.true c.if-p-eq0.false

pub loop-looked-preserved : goal.loop-looked-preserved
loop-looked-preserved c =
    sweep_goes c.requires.0 c.pair_at-p.ensures c.lay_on-s.ensures c.loop-looked.invariant.on c.loop-looked-test.true c.if-p-eq0.false (not-false _ c.if-not-s.false)

pub returns-then-not-s : goal.returns-then-not-s
returns-then-not-s c =
    let w = sweep_stops c.requires.0 c.pair_at-p.ensures c.lay_on-s.ensures c.loop-looked.invariant.on c.loop-looked-test.true c.if-p-eq0.false (not-true _ c.if-not-s.true) in
    record { laid = w.0; counted = w.1.0; looked = w.1.1 }

pub returns : goal.returns
returns c =
    let e : c.loop-looked.looked ≡ 128 = omega (arith, c.segments_before-before.ensures.before.few) in
    let w = sweep_out c.requires.0 c.loop-looked.invariant.on c.loop-looked-test.false in
    record { laid = w.0; counted = w.1.0; looked = rw e at w.1.1 }

-- the counts of a turn

pub overflow_add-lit : goal.overflow_add-lit
overflow_add-lit c = omega (arith, sweep_fits c.loop-looked.invariant.on c.lay_on-s.ensures)
