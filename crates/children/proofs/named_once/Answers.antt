use mathlib.Core.Path.{◌∙◌}
use Rattle.children.proofs.Named.{once_named}
use Rattle.children.proofs.named_once.Goals as goal

pub returns : goal.returns
returns c = c.each_once.ensures ∙ once_named c.args.scene.now.laid_out c.times_named.ensures
