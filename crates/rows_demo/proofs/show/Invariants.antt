-- `show` is safe: before each turn row and words are under work.
use Rattle.std.proofs.Common.{length}
use Rattle.rows.specs.Span.{UnderWork}
use Rattle.rows_demo.proofs.show.Given as goal

abbrev pub invariant-loop-i : goal.invariant-loop-i
invariant-loop-i l = UnderWork (length l.cells) l.row.pairs l.row.words
