-- `first_unlit` meets its contract.
use Prim.Native.Nat.{◌+◌, ◌-◌, ◌*◌}
use native.Mathlib.Omega.{arith}
use Rattle.litmap.proofs.Rows.{no_column, column_of}
use Rattle.litmap.proofs.first_unlit.Goals as goal

pub returns-then-rows-row : goal.returns-then-rows-row
returns-then-rows-row c = no_column _ _ _ (omega (arith, c.if-rows-row.true))

pub returns : goal.returns
returns c =
    rw (c.min.ensures, c.from.ensures)
    (column_of c.args.lit.now c.args.row (omega arith) (4 * c.args.row + 4 - 4 * c.args.row) (omega arith) c.args.width _ c.first_clear.ensures)
