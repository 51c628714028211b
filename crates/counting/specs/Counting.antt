-- The counts of a picture from the table of its patches' cells: what counting asks, and what it leaves.
use Rattle.std.specs.Prelude.{◌≡◌, cond, ℕ, ◌+◌, ◌≤◌, ◌<◌, eqb, length, get_or}
use mathlib.Core.List.{List, map, sum}
use Rattle.model.specs.Lists.{range}
use Rattle.model.specs.Format.{decode, patch_numbered}
use Rattle.model.specs.Picture.{count_entries}
use Rattle.format.specs.declared.layout.Layout.{Layout}

-- the cells of the first k patches together
unfoldable pub together : List ℕ → ℕ → ℕ
together booked k = sum ◌+◌ 0 (map (λ (m : ℕ). get_or booked m 0) (range 0 k))

-- those of panel n alone
unfoldable pub of_panel : (ℕ → ℕ) → List ℕ → ℕ → ℕ → ℕ
of_panel panel booked k n = sum ◌+◌ 0 (map (λ (m : ℕ). cond (eqb (panel m) n) (get_or booked m 0) 0) (range 0 k))

-- a scene whose panels have entries, a table with an entry a patch, and no more cells in it than the picture has
pub record Countable (bytes : List ℕ) (l : Layout) (booked : List ℕ) (cells : ℕ) (totals : List ℕ) : Type 0 where
  pub patches : length booked ≡ l.patches
  pub numbered : (k : ℕ) → k < l.patches → (patch_numbered (decode bytes) k).panel < count_entries
  pub few : cells ≤ 32768
  pub within : together booked (length booked) ≤ cells
  pub entries : length totals ≡ count_entries

-- each panel has the cells of its patches, and "nothing" has the rest
pub record Counted (panel : ℕ → ℕ) (booked : List ℕ) (cells : ℕ) (totals : List ℕ) : Type 0 where
  pub entries : length totals ≡ count_entries
  pub each : (n : ℕ) → 1 ≤ n → n < count_entries → get_or totals n 0 ≡ of_panel panel booked (length booked) n
  pub rest : get_or totals 0 0 + together booked (length booked) ≡ cells
