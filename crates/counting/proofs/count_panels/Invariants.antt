-- `count_panels` meets its contract: the first k patches have added their cells.
use Prim.Native.Nat.{ℕ}
use Rattle.model.specs.Format.{decode, patch_numbered}
use Rattle.counting.proofs.Adding.{AddedUpTo}
use Rattle.counting.proofs.count_panels.Given as goal

abbrev pub invariant-loop-k : goal.invariant-loop-k
invariant-loop-k l = AddedUpTo (λ (m : ℕ). (patch_numbered (decode l.scene.bytes.now) m).panel) l.booked l.cells l.totals l.rest l.k
