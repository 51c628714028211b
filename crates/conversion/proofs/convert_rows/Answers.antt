-- `convert_rows` meets its contract: the rows before row j are painted.
use mathlib.Core.Path.{ap, ◌∙◌}
use native.Mathlib.Omega.{arith}
use lib.ListN.{length}
use Rattle.conversion.proofs.Parts.{lent_is, part_long, row_inside}
use Rattle.conversion.proofs.Painting.{row_under_work, over_none, over_most, over_goes}
use Rattle.conversion.proofs.convert_rows.Goals as goal

pub loop-j-init : goal.loop-j-init
loop-j-init c =
    let a = c.args in
    λ height unlit h k u. over_none a.functions.now a.panel a.width height unlit a.picture.now a.reach.first u

pub lay_patch-n-requires : goal.lay_patch-n-requires
lay_patch-n-requires c =
    let b = c.requires in
    let l = c.loop-j in
    let painted = l.invariant c.args.reach.end b.unlit (omega arith) b.cells b.under_work in (
      b.run,
      omega (arith, c.loop-j-test.true, b.low),
      row_under_work painted.sets l.j c.loop-j-test.true _
          (ap length (lent_is c.args.width l.j l.picture) ∙ part_long c.args.width l.j l.picture (row_inside c.args.width (length l.picture) (omega (arith, l.auto.picture, b.cells)) c.loop-j-test.true))
          b.narrow,
    )

pub overflow_add-lit : goal.overflow_add-lit
overflow_add-lit c =
    let a = c.args in
    let b = c.requires in
    let l = c.loop-j in
    let painted = l.invariant a.reach.end b.unlit (omega arith) b.cells b.under_work in
    omega (arith, over_most a.functions.now a.panel a.width a.reach.end b.unlit a.picture.now a.reach.first l.j painted b.narrow, b.low, c.from-lit.ensures)

pub loop-j-preserved : goal.loop-j-preserved
loop-j-preserved c =
    let a = c.args in
    let l = c.loop-j in
    λ height unlit h k u.
    rw c.from-lit.ensures
    (over_goes a.functions.now a.panel a.width height unlit a.picture.now a.reach.first l.j
    (l.invariant height unlit h k u) l.auto.j (omega (arith, c.loop-j-test.true, h)) (omega (arith, k, l.auto.picture)) c.lay_patch-n.ensures)
