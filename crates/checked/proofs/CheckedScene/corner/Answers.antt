use Rattle.checked.proofs.Corners.{corner_is}
use Rattle.checked.proofs.CheckedScene.corner.Goals as goal

pub returns : goal.returns
returns c =
    corner_is c.args.self.now.checked c.requires (rw (c.scene.ensures.bytes, c.scene.ensures.layout) at c.corner.ensures)
