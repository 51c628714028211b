-- `extents::patches_extent` meets its contract: while the loop runs, the first i are taken in.
use Rattle.extents.specs.Extents.{Widened, Wider, takes_patch}
use Rattle.boxes.specs.Enclosed.{ExtentBounded}
use Rattle.extents.proofs.patches_extent.Given as goal

abbrev pub invariant-loop-i : goal.invariant-loop-i
invariant-loop-i l = Widened Wider ExtentBounded (takes_patch l.scene.bytes.now l.run.first) l.initial.wide l.wide l.i
