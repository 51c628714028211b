-- `geometry::side` meets its contract: the dot product of a difference that is known. Assumes nothing.
use mathlib.Core.Path.{ap}
use Rattle.integer.proofs.Machine.{machine, result}
use Rattle.model.specs.Vector.{Vec, dot}
use Rattle.geometry.specs.Machine.{vec_of}
use Rattle.geometry.proofs.Results.{number}
use Rattle.geometry.proofs.side.Goals as goal

pub returns : goal.returns
returns c = number (
  search (machine, result) depth 40 fits 20000,
  tt,
  tt,
  ap (λ (u : Vec). dot u (vec_of c.args.normal)) c.from_to.ensures.value,
)
