use Rattle.checked.proofs.Nodes.{node_is}
use Rattle.checked.proofs.CheckedScene.node.Goals as goal

pub returns : goal.returns
returns c =
    node_is _ c.args.self.now.layout c.args.self.now.checked c.args.k c.requires _ (rw c.scene.ensures.bytes at c.node.ensures)
