-- What was put, and the lines of the panels that are left, are together all of it.
use Rattle.std.proofs.Common.{arith, length, ap}
use Rattle.std.proofs.lemmas.Grind.{common_steps}
use Rattle.sheet.proofs.Panels.{lines_from, lines_none}
use Rattle.sheet.proofs.put_panels.Goals as goal

pub put_panel-requires : goal.put_panel-requires
put_panel-requires g c =
    let from = ap length (lines_from c.args.counts.now c.loop-panel.panel c.loop-panel-test.true) in
    let all = ap length c.loop-panel.invariant in
    grind (arith, common_steps)

pub loop-panel-preserved : goal.loop-panel-preserved
loop-panel-preserved g c =
    let from = lines_from c.args.counts.now c.loop-panel.panel c.loop-panel-test.true in
    grind (arith, common_steps)

pub returns : goal.returns
returns g c =
    let none = lines_none c.args.counts.now c.loop-panel.panel c.loop-panel-test.false in
    grind (arith, common_steps)
