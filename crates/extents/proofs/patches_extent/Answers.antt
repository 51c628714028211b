-- `extents::patches_extent` meets its contract: while the loop runs, the extent takes in the first i patches.
use Rattle.extents.proofs.ExtentLaws.{patch_taken}
use Rattle.extents.proofs.patches_extent.Goals as goal

pub loop-i-preserved : goal.loop-i-preserved
loop-i-preserved c = patch_taken c.args.scene.now.bytes.now c.args.scene.now.layout c.args.run.first c.loop-i.invariant c.patch_extent-wide.ensures
