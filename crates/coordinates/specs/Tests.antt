-- The two parts of question 3.
use Rattle.std.specs.Prelude.{Bool}
use Rattle.model.specs.Lists.{every}
use Rattle.model.specs.Format.{NodeRecord, Scene}
use Rattle.model.specs.Questions.{point_in_range, plane_in_range}

abbrev pub nodes_in_range : Scene → Bool
nodes_in_range s = every (λ (n : NodeRecord). plane_in_range n.plane) s.nodes

abbrev pub corners_in_range : Scene → Bool
corners_in_range s = every point_in_range s.corners
