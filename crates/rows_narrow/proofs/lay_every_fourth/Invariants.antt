-- `lay_every_fourth` is safe: while the loop runs, row and words are under work.
use Rattle.std.proofs.Common.{◌≡◌, length}
use Rattle.rows.specs.Span.{UnderWork}
use Rattle.rows_narrow.proofs.lay_every_fourth.Given as goal

abbrev pub invariant-loop-column : goal.invariant-loop-column
invariant-loop-column l = UnderWork (length l.cells) l.row.pairs l.row.words × (length l.cells ≡ length l.initial.cells)
