-- How many segments laying a span looks at.
use Rattle.std.specs.Prelude.{Bool, true, cond, List, [], ◌∷◌, ℕ, suc, ◌+◌, min, leb, ltb}
use Rattle.model.specs.Row.{Segment, segments, row_pairs, after_span}

-- a span by its columns, from `first` to `last`, both counted in: none where `last` is below `first`
pub record Columns : Type 0 where
  pub first : ℕ
  pub last : ℕ

-- the segment "ends at or after" a column: its last column, offset + count − 1, is not before it
abbrev pub ends_from : ℕ → Segment → Bool
ends_from column s = ltb column (s.offset + s.count)

-- Document 02, F-6: "from the row's first up to and including the first that ends at or after the span's end, or at all if none does". How many these are.
unfoldable pub looked_at : ℕ → List Segment → ℕ
looked_at last [] = 0
looked_at last (s ∷ ss) = cond (ends_from last s) 1 (suc (looked_at last ss))

-- "Laying a span looks at the stretches": those of the row as it is before. A span of no column is not laid, and looks at none.
unfoldable pub looks : ℕ → (ℕ → Bool) → Columns → ℕ
looks width unlit c = cond (leb c.first c.last) (looked_at c.last (segments width unlit)) 0

-- the columns of a fresh row are all unlit
abbrev pub fresh : ℕ → Bool
fresh i = true

-- those that are unlit after some spans were laid, one after the other
unfoldable pub after_spans : (ℕ → Bool) → List Columns → ℕ → Bool
after_spans unlit [] = unlit
after_spans unlit (c ∷ cs) = after_spans (after_span unlit c.first c.last) cs

-- how many each of the spans looks at, laid one after the other
unfoldable pub looks_in_order : ℕ → (ℕ → Bool) → List Columns → List ℕ
looks_in_order width unlit [] = []
looks_in_order width unlit (c ∷ cs) =
    looks width unlit c ∷ looks_in_order width (after_span unlit c.first c.last) cs

-- "no more than the smaller of k and 128"
abbrev pub most_looks : ℕ → ℕ
most_looks k = min k row_pairs
