use mathlib.Core.Path.{sym, ◌∙◌}
use Rattle.polygons.proofs.patch_proper.Goals as goal

pub strictly_convex-requires : goal.strictly_convex-requires
strictly_convex-requires c =
    record {
      with_normal = record { bounded = c.requires; normal_is = c.patch_normal-n.ensures };
      is_flat_lem = sym c.is_flat.ensures ∙ c.if-is_flat.true;
    }
