-- `halfspaces::held::corner_sides` meets its contract: while the loop runs, the sides of the first i corners are found.
use mathlib.Core.Path.{ap, ◌∙◌}
use mir.Syntax.{w64}
use mir.ValLaws.{to_z-of_z}
use Rattle.halfspaces.specs.Sides.{side_of}
use Rattle.halfspaces.proofs.SidesFound.{found_more}
use Rattle.halfspaces.proofs.held.corner_sides.Goals as goal

pub loop-i-preserved : goal.loop-i-preserved
loop-i-preserved c =
    let n = c.side_of in
    found_more c.loop-i.invariant c.loop-i-test.true
    (to_z-of_z w64 n.result (record { sfits = n.type_inv }) ∙ n.ensures.value ∙ ap (side_of c.args.plane) c.corner.ensures.value)
    c.joined-found.ensures
