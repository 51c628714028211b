-- `carry` meets its contract: each turn puts the pair in hand into pair k + i and takes in hand the one that stood there.
use Rattle.pairs.specs.Pairs.{segment, Carries}
use Rattle.pairs.proofs.carry.Given as goal

abbrev pub invariant-loop-i : goal.invariant-loop-i
invariant-loop-i l = Carries l.k l.i (segment l.initial.p) l.initial.row l.row (segment l.p)
