-- `paint_walk` meets its contract: the first k patches are painted, and the rows before row `top` are full.
use Rattle.traversal.proofs.Walking.{Going}
use Rattle.traversal.proofs.paint_walk.Given as goal

abbrev pub invariant-loop-k : goal.invariant-loop-k
invariant-loop-k l =
    Going l.scene.bytes.now l.sight l.order l.rows l.initial.picture l.picture l.initial.booked l.booked l.top l.k
