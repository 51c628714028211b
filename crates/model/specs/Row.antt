-- A row's unlit cells as pairs of offset and length.
use Rattle.std.specs.Prelude.{Bool, true, false, not, cond, ◌&&◌, ◌||◌, List, [], ◌∷◌, ◌++◌, map, ℕ, zero, suc, ◌+◌, ◌*◌, eqb, leb, ltb, length, take, drop, replicate}
use Rattle.model.specs.Lists.{range}

-- a segment of consecutive columns (document 01's unlit stretch)
pub record Segment : Type 0 where
  pub offset : ℕ
  pub count : ℕ

-- one more unlit column, just before the segments that follow it: it lengthens a segment that it touches
unfoldable pub joined : ℕ → List Segment → List Segment
joined i [] = record { offset = i; count = 1 } ∷ []
joined i (s ∷ ss) =
    cond (eqb s.offset (suc i))
    (record { offset = i; count = suc s.count } ∷ ss)
    (record { offset = i; count = 1 } ∷ s ∷ ss)

-- the segments of the unlit columns, from column i on
unfoldable pub segments_from : ℕ → List Bool → List Segment
segments_from i [] = []
segments_from i (true ∷ us) = joined i (segments_from (suc i) us)
segments_from i (false ∷ us) = segments_from (suc i) us

-- "A row's unlit cells are pairs of offset and length, sorted by offset, never touching."
unfoldable pub segments : ℕ → (ℕ → Bool) → List Segment
segments width unlit = segments_from 0 (map unlit (range 0 width))

-- offsets and lengths alternating
unfoldable pub numbers_of : List Segment → List ℕ
numbers_of [] = []
numbers_of (s ∷ ss) = s.offset ∷ s.count ∷ numbers_of ss

-- a row's places for segments, and its numbers
abbrev pub row_pairs : ℕ
row_pairs = 128

abbrev pub row_length : ℕ
row_length = 256

-- "A row under work holds 128 pairs, unused ones 0 and 0." It has room for all segments for a width up to 256, which question 10 sees to; what is past 128 pairs is cut off.
unfoldable pub row_of : ℕ → (ℕ → Bool) → List ℕ
row_of width unlit = take row_length (numbers_of (segments width unlit) ++ replicate row_length 0)

-- "They end before the row's first pair of length 0, or with the row"
unfoldable pub used_pairs : List ℕ → List ℕ
used_pairs [] = []
used_pairs (offset ∷ []) = []
used_pairs (offset ∷ zero ∷ row) = []
used_pairs (offset ∷ suc n ∷ row) = offset ∷ suc n ∷ used_pairs row

-- column i lies in one of the pairs
unfoldable pub in_pairs : List ℕ → ℕ → Bool
in_pairs [] i = false
in_pairs (offset ∷ []) i = false
in_pairs (offset ∷ count ∷ pairs) i = (leb offset i && ltb i (offset + count)) || in_pairs pairs i

-- the unlit columns that a span from column `first` to column `last` leaves
abbrev pub after_span : (ℕ → Bool) → ℕ → ℕ → ℕ → Bool
after_span unlit first last i = unlit i && not (leb first i && leb i last)

-- "In the lent lists row j has the 256 numbers from 256 × j."
abbrev pub list_of : List ℕ → ℕ → List ℕ
list_of lists j = take row_length (drop (row_length * j) lists)

-- "A row's used pairs are handed out as that part of the lent list. They end before the row's first pair of length 0, or with the row; a row not wholly inside the list gives
-- the empty part."
unfoldable pub used_part : List ℕ → ℕ → List ℕ
used_part lists j = cond (leb (row_length * (j + 1)) (length lists)) (used_pairs (list_of lists j)) []
