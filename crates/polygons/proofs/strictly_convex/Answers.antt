use mathlib.Core.Path.{◌∙◌}
use Rattle.polygons.proofs.Along.{found_bounded, found_convex}
use Rattle.polygons.proofs.strictly_convex.Goals as goal

pub convex_along-requires : goal.convex_along-requires
convex_along-requires c = found_bounded c.requires c.first_axis-axis.ensures c.in-X.is c.along.ensures

pub returns-in-X : goal.returns-in-X
returns-in-X c = c.convex_along.ensures ∙ found_convex c.requires c.first_axis-axis.ensures c.in-X.is c.along.ensures

pub returns-in-Y : goal.returns-in-Y
returns-in-Y c = c.convex_along-in-Y.ensures ∙ found_convex c.requires c.first_axis-axis.ensures c.in-Y.is c.along.ensures

pub returns-in-Z : goal.returns-in-Z
returns-in-Z c = c.convex_along-in-Z.ensures ∙ found_convex c.requires c.first_axis-axis.ensures c.in-Z.is c.along.ensures
