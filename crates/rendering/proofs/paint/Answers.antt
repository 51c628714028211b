-- `rendering::paint` meets its contract: the walk of an accepted scene, painted along the camera's rays and counted, gives the results.
use native.Mathlib.Nat.{mul-le-mul}
use native.Mathlib.Omega.{arith}
use mathlib.Core.Path.{◌∙◌, subst, sym}
use Rattle.geometry.specs.Machine.{vec_of}
use Rattle.camera.specs.Machine.{view_of}
use Rattle.walk.specs.Walked.{WholeWalk}
use Rattle.rendering.specs.Painted.{Painted}
use Rattle.format.proofs.Decoded.{patch_count}
use Rattle.rendering.proofs.Walks.{walk_paintable, raster_framed, painted_all}
use Rattle.rendering.proofs.Counts.{countable, rendered}
use Rattle.rendering.proofs.paint.Goals as goal

pub overflow_cast-cells : goal.overflow_cast-cells
overflow_cast-cells c = let b = c.requires in omega (arith, b.framed.cells, mul-le-mul b.framed.narrow b.framed.low)

pub walk-order-requires : goal.walk-order-requires
walk-order-requires c = c.requires.near

pub paint_rows-requires : goal.paint_rows-requires
paint_rows-requires c =
    let s = c.args.scene.now in
    let b = c.requires in
    let rays = c.camera_raster.ensures in
    let whole = subst (WholeWalk s.bytes.now s.layout (vec_of c.args.eye)) (sym c.as_slice.ensures.value) c.walk-order.ensures in
    record {
      paintable = walk_paintable b.accepted s.checked.laid whole (record { eye_bounded = b.near; raster_bounded = rays.bounded })
          (omega (arith, b.framed.narrow, rays.columns)) (omega (arith, b.framed.low, rays.rows));
      framed = raster_framed rays b.framed;
      entries = b.entries ∙ patch_count s.checked.laid;
    }

pub count_panels-requires : goal.count_panels-requires
count_panels-requires c =
    let s = c.args.scene.now in
    let b = c.requires in
    let whole = subst (WholeWalk s.bytes.now s.layout (vec_of c.args.eye)) (sym c.as_slice.ensures.value) c.walk-order.ensures in
    let painted : Painted s.bytes.now (view_of c.args.eye c.args.camera) c.paint_rows.new.picture c.paint_rows.new.unlit c.paint_rows.new.lit c.paint_rows.new.booked =
    painted_all b.accepted s.checked.laid whole c.camera_raster.ensures (c.paint_rows.auto.booked ∙ b.entries) c.paint_rows.ensures.painted c.paint_rows.ensures.counted in
    countable b.accepted s.checked.laid painted (c.paint_rows.auto.booked ∙ b.entries) b.framed.cells b.framed.narrow b.framed.low b.counted

pub returns-clause-rendered : goal.returns-clause-rendered
returns-clause-rendered c =
    let s = c.args.scene.now in
    let b = c.requires in
    let whole = subst (WholeWalk s.bytes.now s.layout (vec_of c.args.eye)) (sym c.as_slice.ensures.value) c.walk-order.ensures in
    let painted : Painted s.bytes.now (view_of c.args.eye c.args.camera) c.paint_rows.new.picture c.paint_rows.new.unlit c.paint_rows.new.lit c.paint_rows.new.booked =
    painted_all b.accepted s.checked.laid whole c.camera_raster.ensures (c.paint_rows.auto.booked ∙ b.entries) c.paint_rows.ensures.painted c.paint_rows.ensures.counted in
    rendered b.accepted s.checked.laid painted b.framed.cells c.count_panels.ensures
