-- `worst_looks` meets its contract: before each turn row and words are those of the spans laid so far, and the sum is theirs.
use mathlib.Core.Path.{refl}
use native.Mathlib.Omega.{arith}
use Rattle.worst_case.proofs.Laying.{starts, under_work, looks_few, ends, goes_on}
use Rattle.worst_case.proofs.worst_looks.Goals as goal

pub loop-k-init : goal.loop-k-init
loop-k-init c = starts _ refl c.fresh-row.ensures.fresh c.fresh-row.ensures.zeros

pub lay-laid-requires : goal.lay-laid-requires
lay-laid-requires c = under_work c.loop-k.invariant

pub overflow_add-looked : goal.overflow_add-looked
overflow_add-looked c = record { fits = omega (arith, looks_few c.loop-k.invariant, c.ranges.n.fits) }

pub loop-k-preserved : goal.loop-k-preserved
loop-k-preserved c =
    let s = c.worst_span-span.ensures in
    let e = c.lay-laid.ensures in
    rw c.from-looked.ensures (goes_on c.loop-k.invariant s.0 s.1 e.laid e.reported e.mapped c.loop-k-test.true)

pub returns : goal.returns
returns c = let e = ends c.loop-k.invariant c.loop-k-test.false in record { laid = e.0; reached = e.1 }
