use mathlib.Core.Path.{refl, sym}
use native.Mathlib.Omega.{arith}
use Rattle.model.proofs.Loops.{one_passed, refused, accepted}
use Rattle.polygons.proofs.Corners.{corner_bounded, flat_asked, three_passed, off_plane_lem, on_plane}
use Rattle.polygons.proofs.is_flat.Goals as goal

pub loop-k-init : goal.loop-k-init
loop-k-init c = three_passed c.requires.bounded

pub corner_of-requires : goal.corner_of-requires
corner_of-requires c = omega (arith, c.requires.bounded)

pub side-requires : goal.side-requires
side-requires c =
    let b = c.requires.bounded in (
      c.requires.normal_is.bounded,
      corner_bounded b (omega (arith, b.three)) c.corner_of-a.ensures,
      corner_bounded b (omega arith) c.corner_of.ensures,
    )

pub returns-then-side-ne0 : goal.returns-then-side-ne0
returns-then-side-ne0 c =
    refused (flat_asked c.requires.bounded) (omega arith)
    (sym (off_plane_lem c.requires.bounded _ c.requires.normal_is c.corner_of-a.ensures c.corner_of.ensures c.side.ensures c.if-side-ne0.true))
    refl

pub loop-k-preserved : goal.loop-k-preserved
loop-k-preserved c =
    one_passed c.loop-k.invariant (omega arith)
    (sym (on_plane c.requires.bounded _ c.requires.normal_is c.corner_of-a.ensures c.corner_of.ensures c.side.ensures c.if-side-ne0.false))
    refl

pub returns : goal.returns
returns c = accepted (flat_asked c.requires.bounded) c.loop-k.invariant (omega arith)
