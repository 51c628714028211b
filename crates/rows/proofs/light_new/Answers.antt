-- `light_new` meets its contract.
use mathlib.Core.Path.{sym, ◌∙◌}
use Rattle.rows.proofs.Same.{words_stay}
use Rattle.rows.proofs.light_new.Goals as goal

pub returns-then-lit-ne0 : goal.returns-then-lit-ne0
returns-then-lit-ne0 c = λ unlit lit e. c.light.ensures unlit e

pub returns-else-lit-ne0 : goal.returns-else-lit-ne0
returns-else-lit-ne0 c = λ unlit lit e. words_stay c.args.width c.args.first c.args.last unlit (sym lit ∙ c.if-lit-ne0.false) e
