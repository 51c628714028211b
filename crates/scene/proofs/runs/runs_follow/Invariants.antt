use Prim.Native.Nat.{ℕ, ◌+◌, ◌*◌}
use Rattle.scene.specs.Tests.{run_at}
use Rattle.scene.proofs.Following.{FollowTo}
use Rattle.scene.proofs.runs.runs_follow.Given as goal

abbrev pub invariant-loop-k : goal.invariant-loop-k
invariant-loop-k l = FollowTo (λ (j : ℕ). run_at l.bytes (l.at + l.step * j)) l.n l.end l.start l.k
