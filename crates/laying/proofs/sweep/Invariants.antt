-- `sweep` meets its contract: before each turn the span has been laid on the segments before number k.
use Rattle.laying.proofs.Sweeps.{Sweeps}
use Rattle.laying.proofs.sweep.Given as goal

abbrev pub invariant-loop-looked : goal.invariant-loop-looked
invariant-loop-looked l =
    Sweeps l.initial.row l.initial.cells l.first l.last l.panel l.row l.cells l.k l.looked l.lit
