-- `write_rows` meets its contract: the rows before row j are written.
use native.Mathlib.Omega.{arith}
use lib.ListN.{length-take, length-drop}
use Rattle.lists.proofs.Written.{writing_starts, row_fits, writing_goes}
use Rattle.lists.proofs.write_rows.Goals as goal

pub loop-j-init : goal.loop-j-init
loop-j-init c = writing_starts c.requires

pub loop-j-preserved : goal.loop-j-preserved
loop-j-preserved c =
    let i = c.loop-j.invariant in
    writing_goes i c.loop-j-test.true (simp (length-take, length-drop, c.copy_from_slice.auto.self) (omega (arith, row_fits i c.loop-j-test.true))) c.copy_from_slice.ensures.after
