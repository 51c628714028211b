-- A picture's cells, and the sum of its counts.
use mathlib.Core.Path.{◌≡◌, ◌∙◌}
use mathlib.Core.List.{List, sum, Memᴰ}
use Prim.Native.Nat.{ℕ, ◌+◌, ◌*◌, ◌<◌, ◌≤◌}
use native.Mathlib.Omega.{arith}
use lib.ListN.{length, get_or}
use Rattle.model.specs.Vector.{Vec}
use Rattle.model.specs.Patch.{Patch}
use Rattle.model.specs.Ray.{closest, IsClosest, none_met, shows}
use Rattle.model.specs.Format.{highest_panel}
use Rattle.model.specs.Picture.{picture, cell_panel, counts, count_entries}
use Rattle.model.proofs.Closest.{closest_right}
use Rattle.model.proofs.Cells.{cells_length, cells_at, of_cells}
use Rattle.model.proofs.Counts.{counts_total}

module _ (eye : Vec) (width height : ℕ) (direction : ℕ → ℕ → Vec) (ps : List Patch) where
  pub picture_length : length (picture eye width height direction ps) ≡ width * height
  unfolding picture
  picture_length = cells_length width height (cell_panel eye direction ps)

  -- each cell holds its closest panel
  pub picture_at :
      (i j : ℕ) →
      i < width →
      j < height →
      get_or (picture eye width height direction ps) (j * width + i) 0 ≡ closest eye (direction i j) ps
  unfolding picture
  picture_at i j h k = cells_at width height (cell_panel eye direction ps) i j h k

  pub closest_counted : (d : Vec) → ((p : Patch) → Memᴰ p ps → p.panel ≤ highest_panel) → closest eye d ps < count_entries
  closest_counted d f = go (closest_right eye d ps)
    where
      go : {n : ℕ} → IsClosest eye d ps n → n < count_entries
      go (none_met g) = omega arith
      go (shows p m t near low) = let h : p.panel ≤ highest_panel = f p m in omega arith

  -- "Afterwards the counts, entry 0 for "nothing", add up to width × height"
  pub picture_total :
      ((p : Patch) → Memᴰ p ps → p.panel ≤ highest_panel) →
      sum ◌+◌ 0 (counts (picture eye width height direction ps)) ≡ width * height
  unfolding picture
  picture_total f =
      counts_total (picture eye width height direction ps)
      (of_cells width height (cell_panel eye direction ps) (λ (n : ℕ). n < count_entries)
      (λ i j h k. closest_counted (direction i j) f))
      ∙ picture_length
