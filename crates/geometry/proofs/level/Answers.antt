-- `geometry::level` meets its contract: the bounds leave it smaller than any product that `dot_product` forms.
use mathlib.Core.Path.{refl}
use Rattle.integer.proofs.Machine.{machine, result}
use Rattle.geometry.proofs.Results.{number}
use Rattle.geometry.proofs.level.Goals as goal

pub returns : goal.returns
returns c = number (search (machine, result) depth 40 fits 20000, tt, tt, refl)
