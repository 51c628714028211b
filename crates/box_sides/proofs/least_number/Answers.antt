-- `box_sides::least_number` meets its contract.
use mathlib.Core.Path.{subst}
use Rattle.geometry.specs.Machine.{vec_of, NumberIs}
use Rattle.geometry.specs.declared.Vector.{Vector}
use Rattle.halfspaces.specs.Sides.{side_of}
use Rattle.box_sides.proofs.BoxSides.{least_in_front, least_behind}
use Rattle.box_sides.proofs.least_number.Goals as goal

pub returns-then-front : goal.returns-then-front
returns-then-front c =
    least_in_front c.args.plane _
    (subst (λ (v : Vector). NumberIs 48000000000000 (side_of c.args.plane (vec_of v)) c.side_of.result) c.wide.ensures c.side_of.ensures)
    c.if-front.true c.corner_by.ensures

pub returns-else-front : goal.returns-else-front
returns-else-front c =
    least_behind c.args.plane _
    (subst (λ (v : Vector). NumberIs 48000000000000 (side_of c.args.plane (vec_of v)) c.side_of-else-front.result) c.wide-else-front.ensures c.side_of-else-front.ensures)
    c.if-front.false c.corner_by-else-front.ensures
