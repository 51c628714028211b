-- `used_pairs` meets its contract: a row inside the lists, or the empty part.
use mathlib.Core.Path.{◌∙◌}
use native.Mathlib.Omega.{arith}
use Rattle.rows.proofs.Used.{part_outside, part_inside}
use Rattle.rows.proofs.used_pairs.Goals as goal

pub returns-then-unlit-row : goal.returns-then-unlit-row
returns-then-unlit-row c = part_outside _ _ (omega (arith, c.if-unlit-row.true))

pub returns : goal.returns
returns c = c.used_part.ensures ∙ part_inside _ _ c.if-unlit-row.false
