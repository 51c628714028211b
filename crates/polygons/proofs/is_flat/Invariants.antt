use Prim.Native.Nat.{ℕ}
use Rattle.model.specs.Vector.{is_zero, side}
use Rattle.model.specs.Patch.{patch_plane}
use Rattle.format.specs.Patch.{corner_of, patch_of}
use Rattle.model.proofs.Loops.{Passed}
use Rattle.polygons.proofs.is_flat.Given as goal

abbrev pub invariant-loop-k : goal.invariant-loop-k
invariant-loop-k l = Passed l.p.count (λ (j : ℕ). is_zero (side (patch_plane (patch_of l.p)) (corner_of l.p j))) l.k
