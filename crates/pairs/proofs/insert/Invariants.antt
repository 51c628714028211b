-- `insert` meets its contract: eight pairs at a time, until an unused one comes into hand.
use Prim.Native.Nat.{◌+◌, ◌*◌}
use Rattle.pairs.specs.Pairs.{segment}
use Rattle.pairs.proofs.Carrying.{Inserting}
use Rattle.pairs.proofs.insert.Given as goal

abbrev pub invariant-loop-j : goal.invariant-loop-j
invariant-loop-j l = Inserting l.initial.row l.k (segment l.initial.p) l.row (segment l.p) (l.k + 8 * l.j)
