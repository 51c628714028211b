-- `reach::cross_product` meets its contract: the bounds leave room for each part, and the results are the vector's parts.
use mathlib.Core.Path.{refl}
use mir.Syntax.{w64}
use Rattle.integer.proofs.Machine.{machine, result, room}
use Rattle.geometry.proofs.Results.{number, vector}
use Rattle.reach.proofs.cross_product.Goals as goal

pub cross_part-requires-2 : goal.cross_part-requires-2
cross_part-requires-2 c = room w64 (search machine depth 40 fits 20000, tt)

pub cross_part-requires-3 : goal.cross_part-requires-3
cross_part-requires-3 c = room w64 (search machine depth 40 fits 20000, tt)

pub returns : goal.returns
returns c =
    vector
    (number (search (machine, result) depth 40 fits 20000, tt, tt, refl))
    (number (search (machine, result) depth 40 fits 20000, tt, tt, refl))
    (number (search (machine, result) depth 40 fits 20000, tt, tt, refl))
