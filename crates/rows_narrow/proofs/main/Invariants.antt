-- `main` is safe: while the loop runs, the copy is under work.
use Rattle.std.proofs.Common.{length}
use Rattle.rows.specs.Span.{UnderWork}
use Rattle.rows_narrow.proofs.main.Given as goal

abbrev pub invariant-loop-i : goal.invariant-loop-i
invariant-loop-i l = UnderWork (length l.other_cells) l.other.pairs l.other.words
