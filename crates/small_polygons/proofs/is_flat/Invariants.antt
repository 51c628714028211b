use Prim.Native.Nat.{ℕ}
use Rattle.model.specs.Vector.{is_zero, side}
use Rattle.model.specs.Patch.{patch_plane}
use Rattle.format.specs.Patch.{corner_of, patch_of}
use Rattle.model.proofs.Loops.{Passed}
use Rattle.small_polygons.specs.Few.{in_hand}
use Rattle.small_polygons.proofs.is_flat.Given as goal

abbrev pub invariant-loop-k : goal.invariant-loop-k
invariant-loop-k g l = Passed g.row.N (λ (j : ℕ). is_zero (side (patch_plane (patch_of (in_hand l.corners))) (corner_of (in_hand l.corners) j))) l.k
