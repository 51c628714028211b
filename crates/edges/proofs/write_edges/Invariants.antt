-- `edges::write_edges` meets its contract: while the loop runs, the functions of the first i edges stand in the table, and the next edge's corner is at
-- hand.
use Rattle.model.specs.Format.{decode, patch_numbered}
use Rattle.edges.proofs.Rounds.{Going}
use Rattle.edges.proofs.write_edges.Given as goal

abbrev pub invariant-loop-i : goal.invariant-loop-i
invariant-loop-i l =
    Going l.scene.bytes.now l.scene.layout l.sight (patch_numbered (decode l.scene.bytes.now) l.k) l.run.first l.run.count l.fn.reach l.table l.sloped l.from l.i
