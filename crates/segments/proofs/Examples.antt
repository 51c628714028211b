-- Rows worked out: how many segments a span looks at, one list under one statement; and which words of the lit map describe a row's cells.
use mathlib.Core.Path.{◌≡◌, refl, sym}
use mathlib.Core.Bool.{Bool, false, ◌||◌, true≢false}
use mathlib.Core.List.{List, [], ◌∷◌, map}
use Prim.Native.Nat.{ℕ}
use lib.Dec.{eqb, lit<, lit≤}
use lib.ListN.{replicate}
use Rattle.model.specs.Row.{joined, segments_from, segments, numbers_of, row_of, used_pairs, in_pairs}
use Rattle.model.specs.Map.{number_of, map_row, lit_at, SameCells}
use Rattle.segments.specs.Columns.{in_span}
use Rattle.segments.specs.Looks.{Columns, looked_at, looks}
use Rattle.segments.proofs.Mapped.{same_of_set}

-- a row 16 wide, of which columns 4 to 11 and 14 to 15 are unlit
abbrev two_segments : ℕ → Bool
two_segments i = in_span 4 11 i || in_span 14 15 i

abbrev to : ℕ → ℕ → Columns
to first last = record { first = first; last = last }

pub looks_worked :
    map (looks 16 two_segments)
    (to 1 2 ∷ to 2 6 ∷ to 6 8 ∷ to 2 11 ∷ to 6 11 ∷ to 2 12 ∷ to 12 13 ∷ to 2 14 ∷ to 6 14 ∷ to 12 14 ∷ to 15 15 ∷ to 14 20 ∷ to 16 65535 ∷ to 9 8 ∷ [])
    ≡ 1 ∷ 1 ∷ 1 ∷ 1 ∷ 1 ∷ 2 ∷ 2 ∷ 2 ∷ 2 ∷ 2 ∷ 2 ∷ 2 ∷ 2 ∷ 0 ∷ []
unfolding joined segments_from segments looked_at looks
looks_worked = refl

-- a row that is full has none to look at
pub looks_full : map (looks 16 (λ i. false)) (to 0 15 ∷ to 3 5 ∷ []) ≡ 0 ∷ 0 ∷ []
unfolding joined segments_from segments looked_at looks
looks_full = refl

-- ---- the lit map

-- a row 4 wide whose middle columns are lit: rows 1 and 2 of S in 4 by 4 cells
abbrev middle_lit : List ℕ
middle_lit = 0 ∷ 1 ∷ 3 ∷ 1 ∷ replicate 252 0

-- The word 6 has the bits of columns 1 and 2: it describes the same cells.
pub same_worked : SameCells 4 middle_lit (6 ∷ 0 ∷ 0 ∷ 0 ∷ [])
unfolding joined segments_from segments numbers_of row_of number_of map_row
same_worked = same_of_set 4 (lit≤ tt) (λ i. eqb i 0 || eqb i 3)

-- The word 2 lacks column 2.
pub other_worked : SameCells 4 middle_lit (2 ∷ 0 ∷ 0 ∷ 0 ∷ []) → ⊥
unfolding used_pairs in_pairs lit_at SameCells
other_worked same = true≢false (sym (same 2 (lit< tt)))
