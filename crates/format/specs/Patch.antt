-- The machine's patch as the model's.
use Rattle.std.specs.Prelude.{◌≡◌, List, map, ℕ, ◌+◌, ◌*◌, ◌≤◌, ◌<◌, ℤ, pos, get_or}
use Rattle.model.specs.Lists.{range}
use Rattle.model.specs.Vector.{Vec, vec}
use Rattle.model.specs.Patch as model
use Rattle.model.specs.Format.{i16_at, point_at}
use Rattle.format.specs.declared.patch.Patch.{Patch}

-- the first places hold one coordinate of each corner from an offset on
pub record CoordinatesFrom (bytes : List ℕ) (at count : ℕ) (places : List ℤ) : Type 0 where
  pub coordinate : (k : ℕ) → k < count → get_or places k (pos 0) ≡ i16_at bytes (at + 6 * k)

-- the corner at a place
abbrev pub corner_of : Patch → ℕ → Vec
corner_of p k = vec (get_or p.x k (pos 0)) (get_or p.y k (pos 0)) (get_or p.z k (pos 0))

-- the panel and the used corners
abbrev pub patch_of : Patch → model.Patch
patch_of p = record { panel = p.panel; corners = map (corner_of p) (range 0 p.count) }

-- the patch whose corners stand from an offset on
abbrev pub patch_from : List ℕ → ℕ → ℕ → ℕ → model.Patch
patch_from bytes at count panel =
    record { panel = panel; corners = map (λ (k : ℕ). point_at bytes (at + 6 * k)) (range 0 count) }

-- the machine's patch r is p, of 3 to 8 corners
pub record PatchIs (p : model.Patch) (r : Patch) : Type 0 where
  pub value : patch_of r ≡ p
  pub three : 3 ≤ r.count
  pub eight : r.count ≤ 8
