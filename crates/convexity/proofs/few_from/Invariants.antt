use Rattle.convexity.proofs.TableCorners.{Read}
use Rattle.convexity.proofs.few_from.Given as goal

abbrev pub invariant-loop-k : goal.invariant-loop-k
invariant-loop-k g l = Read l.scene.bytes.now l.scene.layout l.first g.row.N l.corners l.k
