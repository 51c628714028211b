-- `extents::corners_box` meets its contract: while the loop runs, the first i are taken in.
use Rattle.boxes.specs.Boxes.{Covers, BoxBounded}
use Rattle.extents.specs.Extents.{Widened, takes_corner}
use Rattle.extents.proofs.corners_box.Given as goal

abbrev pub invariant-loop-i : goal.invariant-loop-i
invariant-loop-i l = Widened Covers BoxBounded (takes_corner l.scene.bytes.now l.scene.layout l.first) l.initial.wide l.wide l.i
