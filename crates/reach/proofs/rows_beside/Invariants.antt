-- `reach::rows_beside` meets its contract: while the loop runs, the first i corners lie beside the planes of the spans' rows.
use Rattle.geometry.specs.Machine.{vec_of}
use Rattle.format.specs.Layout.{corner_number}
use Rattle.reach.proofs.CornerSides.{BesideFirst}
use Rattle.reach.proofs.rows_beside.Given as goal

-- the height is where the spans end at first
abbrev pub invariant-loop-i : goal.invariant-loop-i
invariant-loop-i l =
    BesideFirst (vec_of l.eye) l.planes.rows (corner_number l.scene.bytes.now l.scene.layout) l.run.first l.run.count l.initial.sides.ahead.end l.i l.sides
