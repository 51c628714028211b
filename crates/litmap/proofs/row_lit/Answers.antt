-- `row_lit` meets its contract: the ones of the words before word k.
use native.Mathlib.Omega.{arith}
use Rattle.litmap.proofs.Bits.{ones_is}
use Rattle.litmap.proofs.Rows.{no_cells, ones_start, ones_go, cells_of}
use Rattle.litmap.proofs.row_lit.Goals as goal

pub returns-then-lit-row : goal.returns-then-lit-row
returns-then-lit-row c = no_cells _ _ (omega (arith, c.if-lit-row.true))

pub loop-k-init : goal.loop-k-init
loop-k-init c = ones_start _

pub returns : goal.returns
returns c = cells_of _ _ (omega arith) _ (omega arith) c.loop-k.invariant (omega arith)

pub loop-k-preserved : goal.loop-k-preserved
loop-k-preserved c = ones_go c.loop-k.invariant (ones_is _ (c.type_inv.words c.loop-k.k))
