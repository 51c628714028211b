-- `paint_eight` meets its contract: i cells are written, and of them those of the run are painted.
use Rattle.cells.proofs.Painting.{FrontTo}
use Rattle.cells.proofs.paint_eight.Given as goal

abbrev pub invariant-loop-i : goal.invariant-loop-i
invariant-loop-i l = FrontTo l.count l.panel l.initial.eight l.eight l.i
