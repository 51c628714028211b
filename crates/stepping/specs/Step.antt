-- What the parts of laying a span do with one segment.
use Rattle.std.specs.Prelude.{◌≡◌, Bool, ◌&&◌, List, ◌∷◌, ◌++◌, ℕ, suc, ◌+◌, ◌≤◌, ◌<◌, leb, ltb, length}
use Rattle.model.specs.Lists.{range, tally}
use Rattle.model.specs.Row.{Segment}
use Rattle.segments.specs.Columns.{in_span, painted, remains_before, remains}
use Rattle.segments.specs.Segments.{in_segment, Placed, row_from, segment_at, Holds}

-- in the place of segment k stands what the span leaves of it
pub record Keeps (k first last : ℕ) (row row' : List ℕ) : Type 0 where
  pub keeps :
      (width : ℕ) (done : List Segment) (s : Segment) (rest : List Segment) → Holds width k row done (s ∷ rest) →
      length done + length (remains first last s ++ rest) ≤ 128 → row' ≡ row_from (done ++ (remains first last s ++ rest))

-- the span meets the segment, which is number k of a row
pub record Overlaps (k first last : ℕ) (s : Segment) (before after : Bool) : Type 0 where
  pub place : k < 128
  pub inside : s.offset + s.count ≤ 256
  pub starts : first < s.offset + s.count
  pub ends : s.offset ≤ last
  pub before_is : before ≡ ltb s.offset first
  pub after_is : after ≡ ltb (suc last) (s.offset + s.count)

-- segment k is one that a span can be laid on
pub record Reached (k first last : ℕ) (row cells : List ℕ) : Type 0 where
  pub place : k < 128
  pub span : first ≤ last
  pub placed : Placed (length cells) 0 (segment_at row k)
  pub fits : length cells ≤ 256

-- A span is laid on segment k: `next` is the number of the segment after it, `go` says that the segment ends before the span does,
-- and `lit` is the number of the row's columns that lie in both.
pub record Steps (k first last panel : ℕ) (row cells row' cells' : List ℕ) (next : ℕ) (go : Bool) (lit : ℕ) : Type 0 where
  pub row_is : Keeps k first last row row'
  pub cells_are : cells' ≡ painted (λ (i : ℕ). in_segment (segment_at row k) i && in_span first last i) panel cells
  pub next_is : next ≡ k + length (remains_before first (segment_at row k))
  pub go_is : go ≡ leb ((segment_at row k).offset + (segment_at row k).count) last
  pub lit_is : lit ≡ tally (λ (i : ℕ). in_segment (segment_at row k) i && in_span first last i) (range 0 (length cells))
