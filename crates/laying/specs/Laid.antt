-- Laying a span of columns on a row's segments.
use Rattle.std.specs.Prelude.{◌≡◌, ◌⊎◌, Bool, ◌&&◌, List, ℕ, ◌+◌, ◌≤◌, ◌<◌, length}
use Rattle.model.specs.Row.{row_of, after_span}
use Rattle.segments.specs.Columns.{in_span, painted}
use Rattle.segments.specs.Segments.{segment_at}

-- the numbers are those of a row under work, for some set of unlit columns
pub record Row (width : ℕ) (row : List ℕ) : Type 0 where
  pub fits : width ≤ 256
  pub unlit : ℕ → Bool
  pub row_is : row ≡ row_of width unlit

-- what laying a span leaves, where the row at entry is that of the set `unlit`: the row without the span's columns, and
-- the panel in the cells that were unlit and lie in the span
pub record Lays (unlit : ℕ → Bool) (first last panel : ℕ) (cells row' cells' : List ℕ) : Type 0 where
  pub row_is : row' ≡ row_of (length cells) (after_span unlit first last)
  pub cells_are : cells' ≡ painted (λ (i : ℕ). unlit i && in_span first last i) panel cells

-- the first k segments of a row end before a column
pub record Before (row : List ℕ) (column k : ℕ) : Type 0 where
  pub few : k ≤ 128
  pub each : (m : ℕ) → m < k → (0 < (segment_at row m).count) × ((segment_at row m).offset + (segment_at row m).count ≤ column)

-- they do, and the next one does not, if there is one
pub record AllBefore (row : List ℕ) (column k : ℕ) : Type 0 where
  pub before : Before row column k
  pub next : k < 128 → ((segment_at row k).count ≡ 0) ⊎ (column < (segment_at row k).offset + (segment_at row k).count)
