use Rattle.projection.specs.Projected.{turns_projected_at}
use Rattle.model.proofs.Loops.{Passed}
use Rattle.projection.proofs.convex_along.Given as goal

abbrev pub invariant-loop-k : goal.invariant-loop-k
invariant-loop-k l = Passed l.projection.count (turns_projected_at l.projection l.u l.v) l.k
