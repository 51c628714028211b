-- `geometry::dot_product` meets its contract: the bounds leave room for the sum.
use mir.Syntax.{w64}
use Rattle.integer.proofs.Machine.{machine, room}
use Rattle.geometry.proofs.dot_product.Goals as goal

pub dot-requires : goal.dot-requires
dot-requires c = room w64 (search machine depth 40 fits 20000, tt)
