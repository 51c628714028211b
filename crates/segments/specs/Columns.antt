-- Columns against a span, painted cells, and what a span leaves of a segment.
use Rattle.std.specs.Prelude.{Bool, true, false, cond, not, ◌&&◌, List, [], ◌∷◌, ◌++◌, ℕ, suc, ◌+◌, ◌-◌, min, max, leb, ltb}
use Rattle.model.specs.Lists.{any, range}
use Rattle.model.specs.Row.{Segment}

-- column i lies in the span from column `first` to column `last`
abbrev pub in_span : ℕ → ℕ → ℕ → Bool
in_span first last i = leb first i && leb i last

-- the cells from column i on, with the panel in the columns of the set
unfoldable pub painted_from : ℕ → (ℕ → Bool) → ℕ → List ℕ → List ℕ
painted_from i columns panel [] = []
painted_from i columns panel (cell ∷ cells) =
    cond (columns i) panel cell ∷ painted_from (suc i) columns panel cells

-- a row of cells with the panel in the columns of the set
abbrev pub painted : (ℕ → Bool) → ℕ → List ℕ → List ℕ
painted columns panel cells = painted_from 0 columns panel cells

-- no column of the row is unlit
unfoldable pub all_lit : ℕ → (ℕ → Bool) → Bool
all_lit width unlit = not (any unlit (range 0 width))

-- the segment, where the test passes
abbrev pub piece : Bool → Segment → List Segment
piece true s = s ∷ []
piece false s = []

-- a segment's columns before the span
unfoldable pub remains_before : ℕ → Segment → List Segment
remains_before first s =
    piece (ltb s.offset first) (record { offset = s.offset; count = min (first - s.offset) s.count })

-- and those after it
unfoldable pub remains_after : ℕ → Segment → List Segment
remains_after last s =
    let start : ℕ = max s.offset (suc last) in
    piece (ltb (suc last) (s.offset + s.count)) (record { offset = start; count = s.offset + s.count - start })

-- what a span leaves of a segment
unfoldable pub remains : ℕ → ℕ → Segment → List Segment
remains first last s = remains_before first s ++ remains_after last s
