-- `handed::axes_by` meets its contract: the parts pass through words unchanged.
use Rattle.format.proofs.Words.{handed}
use Rattle.handed.proofs.Handed.{same_axes}
use Rattle.handed.proofs.axes_by.Goals as goal

pub returns : goal.returns
returns c =
    let e = c.ranges in
    same_axes
    (handed e.right_x e.right_y e.right_z c.vector.ensures)
    (handed e.forward_x e.forward_y e.forward_z c.vector-2.ensures)
    (handed e.up_x e.up_y e.up_z c.vector-3.ensures)
