-- `camera::combined` meets its contract: the results are the vector's parts.
use mathlib.Core.Path.{refl}
use Rattle.integer.proofs.Machine.{machine, result}
use Rattle.geometry.proofs.Results.{number, vector}
use Rattle.camera.proofs.combined.Goals as goal

pub returns : goal.returns
returns c =
    vector
    (number (search (machine, result) depth 40 fits 20000, tt, tt, refl))
    (number (search (machine, result) depth 40 fits 20000, tt, tt, refl))
    (number (search (machine, result) depth 40 fits 20000, tt, tt, refl))
