-- `extents::fill_extents` meets its contract: while the loop runs, the extents from node k on stand in the list.
use Rattle.extents.specs.Extents.{ExtentsFrom}
use Rattle.extents.proofs.fill_extents.Given as goal

abbrev pub invariant-loop-k : goal.invariant-loop-k
invariant-loop-k l = ExtentsFrom l.scene.bytes.now l.scene.layout l.k l.boxes
