use Rattle.checked.proofs.Corners.{record_is}
use Rattle.checked.proofs.CheckedScene.patch_record.Goals as goal

pub returns : goal.returns
returns c =
    record_is c.args.self.now.checked c.requires (rw (c.scene.ensures.bytes, c.scene.ensures.layout) at c.patch_record.ensures)
