-- Lists of segments, and the row of a list.
use Rattle.std.specs.Prelude.{◌≡◌, Bool, ◌&&◌, List, [], ◌∷◌, ◌++◌, ℕ, suc, ◌+◌, ◌*◌, ◌≤◌, ◌<◌, leb, ltb, length, get_or, set, take, replicate}
use Rattle.model.specs.Row.{Segment, numbers_of, row_length}

-- column i lies in the segment
unfoldable pub in_segment : Segment → ℕ → Bool
in_segment s i = leb s.offset i && ltb i (s.offset + s.count)

-- a segment in the columns from `low` on and below `width`, not empty
pub record Placed (width low : ℕ) (s : Segment) : Type 0 where
  pub from : low ≤ s.offset
  pub filled : 0 < s.count
  pub inside : s.offset + s.count ≤ width

-- segments in the columns from `low` on and below `width`: none is empty, and between two of them there is a column
pub data Ordered (width : ℕ) : ℕ → List Segment → Type 0 where
  none : {low : ℕ} → Ordered width low []
  more :
      (low : ℕ) (s : Segment) {ss : List Segment} → Placed width low s →
      Ordered width (suc (s.offset + s.count)) ss → Ordered width low (s ∷ ss)

-- the row of a list of segments
unfoldable pub row_from : List Segment → List ℕ
row_from ss = take row_length (numbers_of ss ++ replicate row_length 0)

-- the segment in pair k of a row
abbrev pub segment_at : List ℕ → ℕ → Segment
segment_at row k = record { offset = get_or row (2 * k) 0; count = get_or row (2 * k + 1) 0 }

-- a pair's numbers are those of segment k
pub record Reads (row : List ℕ) (k offset count : ℕ) : Type 0 where
  pub offset_is : offset ≡ (segment_at row k).offset
  pub count_is : count ≡ (segment_at row k).count

-- the row with another segment in pair k
abbrev pub written : List ℕ → ℕ → Segment → List ℕ
written row k s = set (set row (2 * k) s.offset) (2 * k + 1) s.count

-- the row holds k segments, `done`, and then those of `rest`, in order
pub record Holds (width k : ℕ) (row : List ℕ) (done rest : List Segment) : Type 0 where
  pub place : length done ≡ k
  pub few : length done + length rest ≤ 128
  pub ordered : Ordered width (2 * k) rest
  pub row_is : row ≡ row_from (done ++ rest)
