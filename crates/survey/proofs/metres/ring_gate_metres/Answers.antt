-- `survey::metres::ring_gate_metres` meets its contract: the doubles are the station's, and the camera's numbers pass through words unchanged.
use mathlib.Core.Path.{◌∙◌}
use Rattle.contract.proofs.SameStation.{answered_from}
use Rattle.handed.proofs.Handed.{same_camera}
use Rattle.survey.proofs.metres.ring_gate_metres.Goals as goal

pub returns : goal.returns
returns c =
    let e = c.ranges in
    answered_from _ _ _ c.in_metres-station.ensures
    (c.camera_by-camera.ensures ∙ same_camera c.axes_by-axes.ensures e.right_x e.right_y e.right_z e.forward_x e.forward_y e.forward_z e.up_x e.up_y e.up_z)
    (c.answer.ensures ∙ c.admit-admitted.ensures.answered)
