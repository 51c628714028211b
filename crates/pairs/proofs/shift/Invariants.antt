-- `shift` meets its contract: each turn moves the next pair into the gap, which is then one further.
use Rattle.pairs.specs.Pairs.{Shifts}
use Rattle.pairs.proofs.shift.Given as goal

abbrev pub invariant-loop-i : goal.invariant-loop-i
invariant-loop-i l = Shifts l.k l.i l.initial.row l.row l.count
