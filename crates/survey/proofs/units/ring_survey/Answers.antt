-- `survey::units::ring_survey` meets its contract: the numbers of the station and of the camera pass through words unchanged, and demand 2 follows from the equations.
use mathlib.Core.Path.{◌∙◌}
use Rattle.std.proofs.Common.{rules}
use Rattle.contract.proofs.SameStation.{surveyed_from}
use Rattle.demands.proofs.Demands.{closest_surveyed}
use Rattle.handed.proofs.Handed.{same_units, same_camera}
use Rattle.survey.proofs.Left.{left_in}
use Rattle.survey.proofs.units.ring_survey.Goals as goal

pub returns : goal.returns
returns c =
    let e = c.ranges in
    rw c.answer.ensures (closest_surveyed
    (surveyed_from (same_units e.eye_x e.eye_y e.eye_z)
    (c.camera_by-camera.ensures ∙ same_camera c.axes_by-axes.ensures e.right_x e.right_y e.right_z e.forward_x e.forward_y e.forward_z e.up_x e.up_y e.up_z)
    (left_in (search rules) (search rules) (search rules) (search rules) (search rules) (search rules) c.survey_from-done.ensures.surveyed)))
