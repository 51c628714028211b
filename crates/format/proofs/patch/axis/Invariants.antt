use Rattle.format.proofs.Places.{Filled}
use Rattle.format.proofs.patch.axis.Given as goal

abbrev pub invariant-loop-k : goal.invariant-loop-k
invariant-loop-k l = Filled l.bytes l.at l.count l.places l.k
