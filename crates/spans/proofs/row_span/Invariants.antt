-- `spans::row_span` meets its contract. The loop's invariant: the columns wanted are those of the span where the functions not yet seen are above 0.
use Rattle.spans.proofs.Rows.{Narrowed}
use Rattle.spans.proofs.row_span.Given as goal

abbrev pub invariant-loop-f : goal.invariant-loop-f
invariant-loop-f l = Narrowed l.functions l.j l.initial.span l.lit l.f-index l.span
