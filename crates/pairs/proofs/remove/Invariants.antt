-- `remove` meets its contract: eight pairs at a time, until an unused one was moved.
use Prim.Native.Nat.{◌+◌, ◌*◌}
use Rattle.pairs.proofs.Shifting.{Removing}
use Rattle.pairs.proofs.remove.Given as goal

abbrev pub invariant-loop-j : goal.invariant-loop-j
invariant-loop-j l = Removing l.initial.row l.k l.row (l.k + 8 * l.j)
