-- `extents::patch_extent` meets its contract.
use Rattle.extents.proofs.ExtentLaws.{narrowed, patch_extent}
use Rattle.extents.proofs.patch_extent.Goals as goal

pub returns : goal.returns
returns c =
    patch_extent c.args.scene.now.bytes.now c.args.scene.now.layout c.corner_run-run.ensures (narrowed c.narrow-a.ensures c.corner.ensures)
    (narrowed c.narrow-b.ensures c.corner-2.ensures) (narrowed c.narrow-c.ensures c.corner-3.ensures)
    c.joined_box-both.ensures c.joined_box.ensures c.joined_box-wide.ensures c.corners_box.ensures c.common_box.ensures
