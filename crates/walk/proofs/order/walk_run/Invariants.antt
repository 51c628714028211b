use Rattle.std.proofs.Common.{◌≡◌, ◌++◌}
use Rattle.model.specs.Lists.{range}
use Rattle.walk.proofs.order.walk_run.Given as goal

abbrev pub invariant-loop-k : goal.invariant-loop-k
invariant-loop-k l = l.walked.items ≡ l.initial.walked.items ++ range l.run.first l.k
