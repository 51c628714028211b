-- `extents::corners_box` meets its contract: while the loop runs, the box takes in the first i corners.
use Rattle.extents.proofs.ExtentLaws.{narrowed, corner_taken}
use Rattle.extents.proofs.corners_box.Goals as goal

pub loop-i-preserved : goal.loop-i-preserved
loop-i-preserved c =
    corner_taken c.args.scene.now.bytes.now c.args.scene.now.layout c.args.first c.loop-i.invariant (narrowed c.narrow-c.ensures c.corner.ensures) c.joined_box-wide.ensures
