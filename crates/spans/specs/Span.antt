-- Spans of columns.
use Rattle.std.specs.Prelude.{◌≡◌, ◌⊎◌, Bool, false, ◌&&◌, ℕ, ◌≤◌, ◌<◌, leb, ltb, ℤ, pos, ◌+ℤ◌, ◌*ℤ◌}
use Rattle.std.specs.Int.Signed.{lt_z}
use Rattle.integer.specs.Magnitude.{Within}
use Rattle.spans.specs.declared.Span.{Span}

-- column i lies in the span
abbrev pub covers : Span → ℕ → Bool
covers s i = leb s.first i && ltb i s.end

-- the span has a column, and none from `width` on
pub record Occupied (width : ℕ) (s : Span) : Type 0 where
  pub some : s.first < s.end
  pub limited : s.end ≤ width

-- the span has a column or is written 0 and 0, and has no column from `width` on
pub record Shaped (width : ℕ) (s : Span) : Type 0 where
  pub written : (s.first < s.end) ⊎ ((s.first ≡ 0) × (s.end ≡ 0))
  pub limited : s.end ≤ width

-- both ends are within a limit
pub record Limited (most : ℕ) (s : Span) : Type 0 where
  pub first_limit : s.first ≤ most
  pub end_limit : s.end ≤ most

-- a number that changes evenly along a row: slope · i + start at column i
abbrev pub number_at : ℤ → ℤ → ℕ → ℤ
number_at slope start i = slope *ℤ pos i +ℤ start

-- How large the slope and the value at column 0 are at most: room for those of an edge function in a row up to row 1,024, and of a corner's number against the
-- planes of the rows.
pub record Linear (slope start : ℤ) : Type 0 where
  pub slope_within : Within 1351200000000000 slope
  pub start_within : Within 2000000000000000 start

-- r has the columns of s where the number is above 0
pub record Clipped (slope start : ℤ) (s r : Span) : Type 0 where
  pub exact : (i : ℕ) → covers r i ≡ (covers s i && lt_z (pos 0) (number_at slope start i))
  pub shaped : Shaped s.end r

-- r has the same columns as s where the number is above 0, but for those of `lit`
pub record BesideLit (lit : Span) (slope start : ℤ) (s r : Span) : Type 0 where
  pub same :
      (i : ℕ) → covers lit i ≡ false →
      (covers r i && lt_z (pos 0) (number_at slope start i)) ≡ (covers s i && lt_z (pos 0) (number_at slope start i))
  pub limited : r.end ≤ s.end

-- r has the columns of s where the number is above 0, but for those of `lit`, of which it may have any
pub record ClippedBut (lit : Span) (slope start : ℤ) (s r : Span) : Type 0 where
  pub exact : (i : ℕ) → covers lit i ≡ false → covers r i ≡ (covers s i && lt_z (pos 0) (number_at slope start i))
  pub limited : r.end ≤ s.end
