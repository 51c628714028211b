use mathlib.Core.Path.{ap}
use mir.Syntax.{w64}
use lib.IntN.{◌*ℤ◌}
use Rattle.integer.proofs.Machine.{machine, result, room}
use Rattle.geometry.proofs.Results.{number}
use Rattle.projection.proofs.turn_along.Goals as goal

pub product-requires : goal.product-requires
product-requires c = room w64 (search machine depth 40 fits 20000, tt)

pub returns : goal.returns
returns c = number (
  search (machine, result) depth 40 fits 20000,
  tt,
  tt,
  ap (c.args.projection.part *ℤ◌) c.turn_part.ensures.value,
)
