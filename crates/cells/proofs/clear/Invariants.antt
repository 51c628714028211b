-- `clear` meets its contract: the cells before cell i are 0.
use Rattle.cells.proofs.Clearing.{Cleared}
use Rattle.cells.proofs.clear.Given as goal

abbrev pub invariant-loop-i : goal.invariant-loop-i
invariant-loop-i l = Cleared l.initial.cells l.cells l.i
