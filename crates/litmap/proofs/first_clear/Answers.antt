-- `first_clear` meets its contract: no column of the words so far is clear.
use native.Mathlib.Omega.{arith}
use Rattle.litmap.proofs.Bits.{clear_is}
use Rattle.litmap.proofs.Rows.{clear_start, clear_go, clear_found, clear_end}
use Rattle.litmap.proofs.first_clear.Goals as goal

pub loop-word-init : goal.loop-word-init
loop-word-init c = clear_start _

pub returns-then-ones-lt64 : goal.returns-then-ones-lt64
returns-then-ones-lt64 c = clear_found c.loop-word.invariant (clear_is _ (c.type_inv.words c.loop-word.word-index)) (omega arith) c.if-ones-lt64.true

pub loop-word-preserved : goal.loop-word-preserved
loop-word-preserved c = clear_go c.loop-word.invariant (clear_is _ (c.type_inv.words c.loop-word.word-index)) c.if-ones-lt64.false

pub returns : goal.returns
returns c = clear_end c.loop-word.invariant (omega arith)
