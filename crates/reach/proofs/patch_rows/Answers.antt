-- `reach::patch_rows` meets its contract.
use mathlib.Core.Path.{refl}
use Rattle.geometry.proofs.Sizes.{vec_within}
use Rattle.reach.proofs.ProperPatches.{numbered_ranged}
use Rattle.reach.proofs.RowsLeft.{reach_left, reach_limited}
use Rattle.reach.proofs.patch_rows.Goals as goal

pub returns : goal.returns
returns c =
    record { reach = reach_left c.args.raster c.rows_beside-sides.ensures c.without.ensures c.without-2.ensures c.requires.planes_of.rows_of (vec_within c.requires.eye_bounded) c.requires.proper (numbered_ranged c.args.scene.now.checked c.args.k c.requires.number) refl; limited = reach_limited c.args.raster c.rows_beside-sides.ensures c.without.ensures c.without-2.ensures }
