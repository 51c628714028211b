-- `survey::units::ring_gate` meets its contract: the numbers of the station and of the camera pass through words unchanged.
use mathlib.Core.Path.{◌∙◌}
use Rattle.contract.proofs.SameStation.{answered_from}
use Rattle.handed.proofs.Handed.{same_units, same_camera}
use Rattle.survey.proofs.units.ring_gate.Goals as goal

pub returns : goal.returns
returns c =
    let e = c.ranges in
    answered_from _ _ _ (same_units e.eye_x e.eye_y e.eye_z)
    (c.camera_by-camera.ensures ∙ same_camera c.axes_by-axes.ensures e.right_x e.right_y e.right_z e.forward_x e.forward_y e.forward_z e.up_x e.up_y e.up_z)
    (c.answer.ensures ∙ c.admit-admitted.ensures.answered)
