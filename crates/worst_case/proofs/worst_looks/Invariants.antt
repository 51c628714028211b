-- `worst_looks` meets its contract: before each turn row and words are those of the spans laid so far, and the sum is theirs.
use Rattle.worst_case.proofs.Laying.{Laying}
use Rattle.worst_case.proofs.worst_looks.Given as goal

abbrev pub invariant-loop-k : goal.invariant-loop-k
invariant-loop-k l = Laying l.n l.row.pairs l.row.words l.cells l.looked l.k
