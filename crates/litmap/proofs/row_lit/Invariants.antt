-- `row_lit` meets its contract: the ones of the words before word k.
use Rattle.litmap.proofs.Rows.{OnesTo}
use Rattle.litmap.proofs.row_lit.Given as goal

abbrev pub invariant-loop-k : goal.invariant-loop-k
invariant-loop-k l = OnesTo l.words l.k l.ones
