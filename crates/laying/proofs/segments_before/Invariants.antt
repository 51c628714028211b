-- `segments_before` meets its contract: the first k segments end before the column.
use Rattle.laying.specs.Laid.{Before}
use Rattle.laying.proofs.segments_before.Given as goal

abbrev pub invariant-loop-k : goal.invariant-loop-k
invariant-loop-k l = Before l.row l.column l.k
