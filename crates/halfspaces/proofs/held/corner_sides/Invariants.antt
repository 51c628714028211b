-- `halfspaces::held::corner_sides` meets its contract: while the loop runs, the sides of the first i corners are found.
use Rattle.format.specs.Layout.{corner_number}
use Rattle.halfspaces.proofs.SidesFound.{Found}
use Rattle.halfspaces.proofs.held.corner_sides.Given as goal

abbrev pub invariant-loop-i : goal.invariant-loop-i
invariant-loop-i l = Found l.plane (corner_number l.scene.bytes.now l.scene.layout) l.run.first l.run.count l.found l.i
