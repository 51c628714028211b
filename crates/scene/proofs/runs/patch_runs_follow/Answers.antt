use mathlib.Core.Path.{◌∙◌}
use Rattle.scene.proofs.RunTables.{node_runs_read}
use Rattle.scene.proofs.runs.patch_runs_follow.Goals as goal

pub returns : goal.returns
returns c = c.runs_follow.ensures ∙ node_runs_read c.args.scene.now.laid_out
