use mathlib.Core.Path.{sym, ap, ◌∙◌}
use native.Mathlib.Omega.{arith}
use Rattle.polygons.specs.Tests.{patch_proper}
use Rattle.model.proofs.Loops.{first_no, second_decides}
use Rattle.polygons.proofs.Corners.{proper_patch_both}
use Rattle.small_polygons.proofs.FewCorners.{few_bounded, patch_is, normal_first}
use Rattle.small_polygons.proofs.few_proper.Goals as goal

pub is_flat-requires : goal.is_flat-requires
is_flat-requires g c = (
  omega (arith, c.told-corners, c.requires.four),
  record { bounded = few_bounded c.requires; normal_is = normal_first c.requires c.plane_normal-n.ensures },
)

pub turns_round-requires : goal.turns_round-requires
turns_round-requires g c = (
  omega (arith, c.told-corners, c.requires.four),
  (
    record {
      with_normal = record { bounded = few_bounded c.requires; normal_is = normal_first c.requires c.plane_normal-n.ensures };
      is_flat_lem = sym c.is_flat.ensures ∙ c.if-is_flat.true;
    },
    c.requires.four,
  ),
)

pub returns-then-is_flat : goal.returns-then-is_flat
returns-then-is_flat g c =
    second_decides (proper_patch_both _) c.is_flat.ensures c.if-is_flat.true c.turns_round.ensures ∙ ap patch_proper (patch_is c.args.corners.now)

pub returns-else-is_flat : goal.returns-else-is_flat
returns-else-is_flat g c =
    c.if-is_flat.false ∙ first_no (proper_patch_both _) c.is_flat.ensures c.if-is_flat.false ∙ ap patch_proper (patch_is c.args.corners.now)
