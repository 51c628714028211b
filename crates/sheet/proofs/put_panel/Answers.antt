-- A panel without cells has no line.
use Rattle.std.proofs.Common.{arith, length, ap}
use Rattle.std.proofs.lemmas.Grind.{common_steps}
use Rattle.sheet.proofs.Panels.{no_cells, some_cells}
use Rattle.sheet.proofs.put_panel.Goals as goal

pub put_number-requires : goal.put_number-requires
put_number-requires g c = let line = ap length (some_cells c.args.panel c.args.cells c.if-cells-ne0.true) in grind (arith, common_steps)

pub put_last-requires : goal.put_last-requires
put_last-requires g c = let line = ap length (some_cells c.args.panel c.args.cells c.if-cells-ne0.true) in grind (arith, common_steps)

pub returns-then-cells-ne0 : goal.returns-then-cells-ne0
returns-then-cells-ne0 g c = let line = some_cells c.args.panel c.args.cells c.if-cells-ne0.true in grind (arith, common_steps)

pub returns-else-cells-ne0 : goal.returns-else-cells-ne0
returns-else-cells-ne0 g c = let line = no_cells c.args.panel c.if-cells-ne0.false in grind (arith, common_steps)
