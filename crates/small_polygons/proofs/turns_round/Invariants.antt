use Rattle.small_polygons.proofs.FewCorners.{Turning}
use Rattle.small_polygons.proofs.turns_round.Given as goal

abbrev pub invariant-loop-k : goal.invariant-loop-k
invariant-loop-k g l = Turning l.axis l.corners l.projection l.a l.b l.k
