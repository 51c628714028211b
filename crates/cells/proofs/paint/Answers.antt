-- `paint` meets its contract: a part of the row is written whose first cells are those of the run.
use Prim.Native.Nat.{◌+◌, ◌-◌}
use native.Mathlib.Omega.{arith}
use lib.ListN.{length-take, length-drop}
use Rattle.cells.proofs.Painting.{front_all, span_painted}
use Rattle.cells.proofs.paint.Goals as goal

pub returns-then-start-cells : goal.returns-then-start-cells
returns-then-start-cells c =
    span_painted _ _ _ _ _ _ (omega arith) (omega arith) c.paint_eight.ensures c.args.from c.args.to c.from-start.ensures (omega arith)

pub returns-else-to-from-lt8 : goal.returns-else-to-from-lt8
returns-else-to-from-lt8 c =
    span_painted _ (c.from.result + 1 - c.from-start.result) _ _ _ _ (omega arith) (omega arith)
    (front_all _ _ _ _ (simp (length-take, length-drop) (omega arith)) (c.fill.ensures.after (λ y h. h))) c.args.from c.args.to c.from-start.ensures (omega arith)
