-- `division::planes_divide` meets its contract: the tree below node 0 is the scene's.
use Rattle.model.specs.Format.{number_tree, patch_tree}
use Rattle.model.specs.Questions.{planes_divide}
use Rattle.division.proofs.planes_divide.Goals as goal

pub returns : goal.returns
unfolding planes_divide patch_tree number_tree
returns c = c.nodes_divide.ensures
