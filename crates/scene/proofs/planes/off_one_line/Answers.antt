use mathlib.Core.Path.{◌∙◌}
use Rattle.std.proofs.Common.{rules}
use Rattle.scene.proofs.OffOneLine.{not_both_zero, third_decides}
use Rattle.scene.proofs.planes.off_one_line.Goals as goal

pub returns-then-v-ne0-2 : goal.returns-then-v-ne0-2
returns-then-v-ne0-2 c = search rules ∙ not_both_zero _ c.plane_normal-v.ensures c.if-v-ne0-2.either

pub returns-else-v-ne0-2 : goal.returns-else-v-ne0-2
returns-else-v-ne0-2 c = third_decides _ c.plane_normal-v.ensures c.if-v-ne0-2.false.0 c.if-v-ne0-2.false.1
