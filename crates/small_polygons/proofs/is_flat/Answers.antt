use mathlib.Core.Path.{refl, sym}
use native.Mathlib.Omega.{arith}
use Rattle.model.proofs.Loops.{one_passed, refused, accepted}
use Rattle.polygons.proofs.Corners.{corner_bounded, flat_asked, three_passed, off_plane_lem, on_plane}
use Rattle.small_polygons.proofs.FewCorners.{corner_is, passed_by}
use Rattle.small_polygons.proofs.is_flat.Goals as goal

pub loop-k-init : goal.loop-k-init
loop-k-init g c = passed_by c.told-corners (three_passed c.requires.bounded)

pub side-requires : goal.side-requires
side-requires g c =
    let b = c.requires.bounded in (
      c.requires.normal_is.bounded,
      corner_bounded b (omega (arith, b.three)) (sym (corner_is c.args.corners.now 0)),
      corner_bounded b (omega (arith, c.told-corners)) (sym (corner_is c.args.corners.now c.loop-k.k)),
    )

pub returns-then-side-ne0 : goal.returns-then-side-ne0
returns-then-side-ne0 g c =
    refused (flat_asked c.requires.bounded) (omega (arith, c.told-corners))
    (sym (off_plane_lem c.requires.bounded _ c.requires.normal_is (sym (corner_is c.args.corners.now 0)) (sym (corner_is c.args.corners.now c.loop-k.k)) c.side.ensures c.if-side-ne0.true))
    refl

pub loop-k-preserved : goal.loop-k-preserved
loop-k-preserved g c =
    one_passed c.loop-k.invariant (omega arith)
    (sym (on_plane c.requires.bounded _ c.requires.normal_is (sym (corner_is c.args.corners.now 0)) (sym (corner_is c.args.corners.now c.loop-k.k)) c.side.ensures c.if-side-ne0.false))
    refl

pub returns : goal.returns
returns g c = accepted (flat_asked c.requires.bounded) (passed_by (sym c.told-corners) c.loop-k.invariant) (omega (arith, c.told-corners))
