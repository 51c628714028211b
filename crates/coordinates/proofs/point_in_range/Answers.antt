-- `coordinates::point_in_range` meets its contract: the limit is the one that the definition names.
use Rattle.coordinates.proofs.point_in_range.Goals as goal

pub returns : goal.returns
returns c = c.parts_up_to.ensures
