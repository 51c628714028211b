-- What putting a pair in and taking one out do with the segments of a row.
use Rattle.std.specs.Prelude.{◌≡◌, List, [], ◌∷◌, ◌++◌, ℕ, ◌+◌, ◌*◌, ◌<◌, length, take, replicate}
use Rattle.model.specs.Row.{Segment}
use Rattle.segments.specs.Segments.{row_from, Holds}
use Rattle.pairs.specs.declared.Pair.{Pair}

-- the segment that a pair of the code is
abbrev pub segment : Pair → Segment
segment p = record { offset = p.offset; count = p.count }

-- the segment `s` now stands in the row as number k
pub record Inserts (k : ℕ) (s : Segment) (row row' : List ℕ) : Type 0 where
  pub inserts :
      (width : ℕ) (done rest : List Segment) → Holds width k row done rest → length done + length rest < 128 →
      row' ≡ row_from (done ++ s ∷ rest)

-- segment k is gone
pub record Removes (k : ℕ) (row row' : List ℕ) : Type 0 where
  pub removes :
      (width : ℕ) (done : List Segment) (s : Segment) (rest : List Segment) → Holds width k row done (s ∷ rest) →
      row' ≡ row_from (done ++ rest)

-- after a pair of count 0 there are zeros alone
abbrev pub Tidy : List ℕ → Type 0
Tidy [] = Unit {0}
Tidy (x ∷ []) = Unit {0}
Tidy (x ∷ y ∷ xs) = (y ≡ 0 → (x ≡ 0) × (xs ≡ replicate (length xs) 0)) × Tidy xs

-- the pair p is to stand in pair i of the row, and the numbers from there on after it: the row is then to be `total`
pub record Carry (total : List ℕ) (i : ℕ) (p : Segment) (row : List ℕ) : Type 0 where
  pub before : List ℕ
  pub after : List ℕ
  pub place : length before ≡ 2 * i
  pub size : 2 * i + length after ≡ 256
  pub row_is : row ≡ before ++ after
  pub total_is : total ≡ before ++ take (length after) (p.offset ∷ p.count ∷ after)
  pub tidy : Tidy after

-- the same, and p stood in the row before these numbers
pub record Carried (total : List ℕ) (i : ℕ) (p : Segment) (row : List ℕ) : Type 0 where
  pub on : Carry total i p row
  pub read : Tidy (p.offset ∷ p.count ∷ on.after)

-- the pair p was put into pair k, and each of the n pairs from there on took the place of the one after it; the last one, q, is in hand
pub record Carries (k n : ℕ) (p : Segment) (row row' : List ℕ) (q : Segment) : Type 0 where
  pub carries : (total : List ℕ) → Carry total k p row → Carry total (k + n) q row'
  pub reads : 0 < n → (total : List ℕ) → Carry total k p row → Carried total (k + n) q row'

-- pair i of the row is to be overwritten by the numbers after it: the row is then to be `total`, which ends with an unused pair
pub record Gap (total : List ℕ) (i : ℕ) (row : List ℕ) : Type 0 where
  pub before : List ℕ
  pub x : ℕ
  pub y : ℕ
  pub after : List ℕ
  pub place : length before ≡ 2 * i
  pub size : 2 * i + 2 + length after ≡ 256
  pub row_is : row ≡ before ++ x ∷ y ∷ after
  pub total_is : total ≡ before ++ (after ++ 0 ∷ 0 ∷ [])
  pub tidy : Tidy after

-- the same, and the last pair moved, which still stands in pair i too, is of this count
pub record Shifted (total : List ℕ) (i count : ℕ) (row : List ℕ) : Type 0 where
  pub on : Gap total i row
  pub count_is : count ≡ on.y
  pub read : Tidy (on.x ∷ on.y ∷ on.after)

-- each of the n pairs after pair k took the place of the one before it, and the last of them is of this count
pub record Shifts (k n : ℕ) (row row' : List ℕ) (count : ℕ) : Type 0 where
  pub shifts : (total : List ℕ) → Gap total k row → Gap total (k + n) row'
  pub reads : 0 < n → (total : List ℕ) → Gap total k row → Shifted total (k + n) count row'
