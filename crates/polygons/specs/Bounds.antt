-- What is known of a patch in hand when a part of question 8 is asked.
use Rattle.std.specs.Prelude.{◌≡◌, true, ℕ, ◌≤◌, ◌<◌}
use Rattle.model.specs.Patch.{normal, flat}
use Rattle.geometry.specs.declared.Vector.{Vector}
use Rattle.geometry.specs.Machine.{VectorIs}
use Rattle.format.specs.declared.patch.Patch.{Patch}
use Rattle.format.specs.Patch.{corner_of, patch_of}
use Rattle.model.specs.Bounds.{VecWithin}

-- a patch in hand after questions 3 and 6
pub record PatchBounded (p : Patch) : Type 0 where
  pub three : 3 ≤ p.count
  pub eight : p.count ≤ 8
  pub corners_within : (k : ℕ) → k < p.count → VecWithin 10000 (corner_of p k)

-- with its normal
pub record WithNormal (p : Patch) (n : Vector) : Type 0 where
  pub bounded : PatchBounded p
  pub normal_is : VectorIs 800000000 (normal (patch_of p)) n

-- and found flat
pub record FoundFlat (p : Patch) (n : Vector) : Type 0 where
  pub with_normal : WithNormal p n
  pub is_flat_lem : flat (patch_of p) ≡ true
