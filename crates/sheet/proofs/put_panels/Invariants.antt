-- What was put, and the lines of the panels that are left, are together all of it.
use Rattle.std.proofs.Common.{◌≡◌, ◌++◌, drop}
use Rattle.sheet.specs.Sheet.{panel_lines, panel_list}
use Rattle.sheet.proofs.put_panels.Given as goal

abbrev pub invariant-loop-panel : goal.invariant-loop-panel
invariant-loop-panel g l = l.out.items ++ panel_lines l.panel (drop l.panel l.counts) ≡ l.initial.out.items ++ panel_list l.counts
