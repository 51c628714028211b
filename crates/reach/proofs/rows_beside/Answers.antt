-- `reach::rows_beside` meets its contract: while the loop runs, the first i corners lie beside the planes of the spans' rows.
use native.Mathlib.Omega.{arith}
use lib.Dec.{lit≤}
use Rattle.reach.proofs.CornerSides.{bounded_more, sides_shaped, corner_linear, corner_clipped, beside_none, beside_more, beside_all}
use Rattle.reach.proofs.rows_beside.Goals as goal

pub loop-i-init : goal.loop-i-init
loop-i-init c = beside_none

pub corner-corner-requires : goal.corner-corner-requires
corner-corner-requires c = omega (arith, c.loop-i-test.true, c.corner_run-run.ensures.run_inside)

pub overflow_add-run : goal.overflow_add-run
overflow_add-run c = omega (arith, c.loop-i-test.true, c.corner_run-run.ensures.run_inside, c.args.scene.now.checked.laid.few_corners)

pub eye_product-start-requires : goal.eye_product-start-requires
eye_product-start-requires c =
    let h = c.requires in
    (h.eye_bounded, c.corner-corner.ensures.bounded, bounded_more (lit≤ tt) h.planes_of.rows_of.first_is.bounded)

pub eye_product-slope-requires : goal.eye_product-slope-requires
eye_product-slope-requires c =
    let h = c.requires in
    (h.eye_bounded, c.corner-corner.ensures.bounded, bounded_more (lit≤ tt) h.planes_of.rows_of.next_is.bounded)

pub clip_sides-sides-requires : goal.clip_sides-sides-requires
clip_sides-sides-requires c =
    (sides_shaped c.loop-i.invariant c.requires.height_limit, corner_linear c.eye_product-slope.ensures c.eye_product-start.ensures)

pub loop-i-preserved : goal.loop-i-preserved
loop-i-preserved c =
    beside_more c.loop-i.invariant c.loop-i-test.true c.corner-corner.ensures.value
    (corner_clipped c.eye_product-slope.ensures c.eye_product-start.ensures c.clip_sides-sides.ensures)

pub returns : goal.returns
returns c = rw c.corner_run-run.ensures.corners_are (beside_all c.loop-i.invariant c.loop-i-test.false)
