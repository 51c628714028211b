-- `write_rows` meets its contract: the rows before row j are written.
use Prim.Native.Nat.{ℕ}
use lib.ListN.{get_or}
use Rattle.rows.specs.Span.{no_row}
use Rattle.lists.proofs.Written.{WrittenUpTo}
use Rattle.lists.proofs.write_rows.Given as goal

abbrev pub invariant-loop-j : goal.invariant-loop-j
invariant-loop-j l = WrittenUpTo 256 l.height (λ (j : ℕ). (get_or l.rows j no_row).pairs) l.unlit l.j
