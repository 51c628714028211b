-- A walk painted patch after patch: what is asked, which rows are full, and what it leaves.
use Rattle.std.specs.Prelude.{◌≡◌, List, map, ℕ, ◌*◌, ◌≤◌, ◌<◌, length, get_or}
use Rattle.model.specs.Patch.{Patch}
use Rattle.model.specs.Format.{decode, patch_numbered}
use Rattle.geometry.specs.Machine.{vec_of}
use Rattle.geometry.specs.Raster.{line_at}
use Rattle.format.specs.declared.layout.Layout.{Layout}
use Rattle.edges.specs.declared.Sight.{Sight}
use Rattle.rows.specs.declared.RowUnderWork.{RowUnderWork}
use Rattle.rows.specs.Span.{no_row}
use Rattle.scanline.specs.Shown.{RowPainted}
use Rattle.conversion.specs.Canvas.{row_part}
use Rattle.conversion.specs.Booked.{Booked}
use Rattle.conversion.specs.Progress.{Paintable, WalkPainted}

-- the patches of a walk, by their numbers
abbrev pub walk_of : List ℕ → List ℕ → List Patch
walk_of bytes order = map (patch_numbered (decode bytes)) order

-- what painting a walk asks: all rows are fresh, and nothing is booked
pub record WalkAsked
    (bytes : List ℕ) (l : Layout) (order : List ℕ) (s : Sight) (rows : List RowUnderWork) (picture booked : List ℕ) : Type 0 where
  pub paintable : Paintable bytes l s order
  pub cells : length picture ≡ s.raster.width * s.raster.height
  pub entries : length booked ≡ l.patches
  pub fresh : WalkPainted bytes s order rows picture booked 0

-- the rows from `from` on up to before row r are full: their first segments have length 0
pub record FullUpTo (rows : List RowUnderWork) (from height r : ℕ) : Type 0 where
  pub above : from ≤ r
  pub below : r ≤ height
  pub full : (j : ℕ) → from ≤ j → j < r → get_or (get_or rows j no_row).pairs 1 0 ≡ 0

-- r is the first of them that is not full, or the height
pub record FirstOpen (rows : List RowUnderWork) (from height r : ℕ) : Type 0 where
  pub before : FullUpTo rows from height r
  pub is_open : r < height → get_or (get_or rows r no_row).pairs 1 0 ≡ 0 → ⊥

-- the whole walk is painted in each row, and its cells booked
pub record WholePainted
    (bytes : List ℕ) (s : Sight) (order : List ℕ) (rows : List RowUnderWork) (picture booked : List ℕ) : Type 0 where
  pub each :
      (j : ℕ) → j < s.raster.height →
      RowPainted (vec_of s.eye) (λ (i : ℕ). line_at s.raster i j) (walk_of bytes order) s.raster.width
      (row_part s.raster.width j picture) (get_or rows j no_row).pairs (get_or rows j no_row).words
  pub booked_are :
      Booked (vec_of s.eye) (line_at s.raster) (patch_numbered (decode bytes)) order s.raster.width booked s.raster.height
