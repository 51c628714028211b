-- `used_part` meets its contract: the pairs before number k are used.
use Rattle.pairs.proofs.Used.{UsedTo}
use Rattle.pairs.proofs.used_part.Given as goal

abbrev pub invariant-loop-k : goal.invariant-loop-k
invariant-loop-k l = UsedTo l.row l.k
