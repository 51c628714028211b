-- `clear_table` meets its contract: the entries before entry n are 0.
use Rattle.cells.proofs.Clearing.{Cleared}
use Rattle.cells.proofs.clear_table.Given as goal

abbrev pub invariant-loop-n : goal.invariant-loop-n
invariant-loop-n l = Cleared l.initial.booked l.booked l.n
