use Rattle.projection.specs.Projected.{asked}
use Rattle.model.proofs.Loops.{Passed}
use Rattle.projection.proofs.Projected.{turn_projected_at}
use Rattle.projection.proofs.turns_at_edge.Given as goal

abbrev pub invariant-loop-j : goal.invariant-loop-j
invariant-loop-j l = Passed (asked l.projection.count) (turn_projected_at l.projection l.u l.v l.k) l.j
