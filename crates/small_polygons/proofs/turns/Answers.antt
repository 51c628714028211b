use Rattle.small_polygons.proofs.FewCorners.{turn_told}
use Rattle.small_polygons.proofs.turns.Goals as goal

pub returns : goal.returns
returns c = turn_told c.turn_along.ensures
