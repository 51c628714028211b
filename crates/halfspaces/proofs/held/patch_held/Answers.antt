-- `halfspaces::held::patch_held` meets its contract.
use Rattle.halfspaces.proofs.SidesFound.{held_found}
use Rattle.halfspaces.proofs.held.patch_held.Goals as goal

pub returns : goal.returns
returns c = held_found _ c.corner_run.ensures c.corner_sides.ensures c.eq.ensures
