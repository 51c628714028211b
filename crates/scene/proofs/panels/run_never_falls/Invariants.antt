use Prim.Native.Nat.{ℕ, ◌+◌}
use Rattle.format.specs.Layout.{patch_number}
use Rattle.scene.proofs.NeverFalling.{RisingTo}
use Rattle.scene.proofs.panels.run_never_falls.Given as goal

abbrev pub invariant-loop-k : goal.invariant-loop-k
invariant-loop-k l = RisingTo (λ (j : ℕ). (patch_number l.scene.bytes.now l.scene.layout j).panel) l.fn.run.first (l.fn.run.first + l.fn.run.count) l.k l.low
