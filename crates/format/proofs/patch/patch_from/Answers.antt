use Rattle.format.proofs.Places.{patch_placed}
use Rattle.format.proofs.patch.patch_from.Goals as goal

pub returns : goal.returns
returns c =
    patch_placed _ _ _ c.axis.ensures c.axis-2.ensures c.axis-3.ensures _
    c.requires.1
    c.requires.2
