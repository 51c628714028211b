use native.Mathlib.Omega.{arith}
use Rattle.polygons.proofs.Corners.{corner_bounded, normal_found}
use Rattle.polygons.proofs.patch_normal.Goals as goal

pub plane_normal-requires : goal.plane_normal-requires
plane_normal-requires c =
    let p = c.requires in (
      corner_bounded p (omega (arith, p.three)) c.corner_of.ensures,
      corner_bounded p (omega (arith, p.three)) c.corner_of-2.ensures,
      corner_bounded p (omega (arith, p.three)) c.corner_of-3.ensures,
    )

pub returns : goal.returns
returns c =
    normal_found c.requires c.corner_of.ensures
    c.corner_of-2.ensures
    c.corner_of-3.ensures c.plane_normal.ensures
