-- `box_sides::corner_by` meets its contract, axis by axis.
use Rattle.box_sides.proofs.BoxCorners.{corner_by}
use Rattle.box_sides.proofs.corner_by.Goals as goal

pub returns : goal.returns
returns c =
    corner_by c.requires.0 c.requires.1 c.requires.2 c.end_by.ensures c.end_by-2.ensures c.end_by-3.ensures
