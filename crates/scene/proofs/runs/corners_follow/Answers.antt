use mathlib.Core.Path.{◌∙◌}
use Rattle.scene.proofs.RunTables.{patch_runs_read}
use Rattle.scene.proofs.runs.corners_follow.Goals as goal

pub returns : goal.returns
returns c = c.runs_follow.ensures ∙ patch_runs_read c.args.scene.now.laid_out
