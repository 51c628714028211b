-- Question 8 of a patch of three or four corners.
use Rattle.std.specs.Prelude.{cond, List, map, ℕ, ◌==◌, ◌≤◌, ◌<◌, pos, length, get_or}
use Rattle.model.specs.Patch as model
use Rattle.geometry.specs.declared.Vector.{Vector}
use Rattle.geometry.specs.Machine.{vec_of, Bounded}
use Rattle.format.specs.declared.patch.Patch.{Patch}

-- what a place past the corners is taken to hold
abbrev pub nowhere : Vector
nowhere = record { x = pos 0; y = pos 0; z = pos 0 }

-- three or four corners after question 3
pub record FewBounded (corners : List Vector) : Type 0 where
  pub three : 3 ≤ length corners
  pub four : length corners ≤ 4
  pub each : (k : ℕ) → k < length corners → Bounded 10000 (get_or corners k nowhere)

-- a patch of these corners; its panel has no part in question 8
abbrev pub patch_of_few : List Vector → model.Patch
patch_of_few corners = record { panel = 0; corners = map vec_of corners }

-- the same as one in hand
abbrev pub in_hand : List Vector → Patch
in_hand corners =
    record {
      x = map (λ (v : Vector). v.x) corners;
      y = map (λ (v : Vector). v.y) corners;
      z = map (λ (v : Vector). v.z) corners;
      count = length corners;
      panel = 0;
    }

-- how many edges of a patch are asked whether they have the next corner on their inner side: of three corners the first one
abbrev pub edges_asked : ℕ → ℕ
edges_asked count = cond (count == 3) 1 count
