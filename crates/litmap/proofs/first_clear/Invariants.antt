-- `first_clear` meets its contract: no column of the words so far is clear.
use Rattle.litmap.proofs.Rows.{ClearTo}
use Rattle.litmap.proofs.first_clear.Given as goal

abbrev pub invariant-loop-word : goal.invariant-loop-word
invariant-loop-word l = ClearTo l.words l.word-index l.column
