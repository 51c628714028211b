-- `paint_walk` meets its contract: the first k patches are painted, and the rows before row `top` are full.
use mathlib.Core.Path.{◌∙◌}
use mathlib.Core.Logic.{inl, inr}
use native.Mathlib.Omega.{arith}
use Rattle.traversal.proofs.Walking.{walk_starts, found_full, walk_goes, walk_done}
use Rattle.traversal.proofs.paint_walk.Goals as goal

pub planes_of-planes-requires : goal.planes_of-planes-requires
planes_of-planes-requires c = c.requires.paintable.sight.raster_bounded

pub loop-k-init : goal.loop-k-init
loop-k-init c = walk_starts c.requires.fresh

pub first_open-top-requires : goal.first_open-top-requires
first_open-top-requires c = (c.loop-k.invariant.below, c.requires.paintable.low)

pub shape_of-picture-then-top-height : goal.shape_of-picture-then-top-height
shape_of-picture-then-top-height c = c.loop-k.invariant.same_cells

pub shape_of-booked-then-top-height : goal.shape_of-booked-then-top-height
shape_of-booked-then-top-height c = c.loop-k.invariant.same_entries

pub returns-then-top-height : goal.returns-then-top-height
returns-then-top-height c =
    let l = c.loop-k in
    let e = c.if-top-height.true in
    walk_done l.invariant (inr (λ j h. found_full l.invariant c.requires.paintable.narrow c.first_open-top.ensures.before j (omega (arith, e))))

pub paint_patch-requires : goal.paint_patch-requires
paint_patch-requires c =
    let l = c.loop-k in
    let b = c.requires in
    record {
      paintable = b.paintable;
      planes_of = c.planes_of-planes.ensures;
      next = c.loop-k-test.true;
      cells = l.invariant.same_cells ∙ b.cells;
      entries = l.invariant.same_entries ∙ b.entries;
      so_far = l.invariant.walk;
    }

pub loop-k-preserved : goal.loop-k-preserved
loop-k-preserved c =
    let l = c.loop-k in
    walk_goes l.invariant c.loop-k-test.true c.requires.paintable.narrow c.first_open-top.ensures.before
    c.paint_patch.auto.picture c.paint_patch.auto.booked c.paint_patch.ensures

pub shape_of-picture : goal.shape_of-picture
shape_of-picture c = c.loop-k.invariant.same_cells

pub shape_of-booked : goal.shape_of-booked
shape_of-booked c = c.loop-k.invariant.same_entries

pub returns : goal.returns
returns c = walk_done c.loop-k.invariant (inl c.loop-k-test.false)
