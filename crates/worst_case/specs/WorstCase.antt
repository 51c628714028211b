-- The worst case of laying spans: those that look at the most segments of a row 256 wide (document 02's dearest row), and at how many.
use mathlib.Core.List.{List, map, sum}
use Rattle.std.specs.Prelude.{ℕ, ◌+◌, ◌*◌, ◌-◌, min, max}
use Rattle.model.specs.Lists.{range}
use Rattle.segments.specs.Looks.{Columns, fresh, looks_in_order, most_looks}

-- Document 02, F-6: "A maker gives, for any k, the k-th span on a row 256 wide (k of 0 is taken as 1)". A span of one column: 1, 3, 5 and so on up to 255, and 255
-- from then on.
abbrev pub worst_column : ℕ → ℕ
worst_column k = min (2 * max k 1 - 1) 255

abbrev pub worst_span : ℕ → Columns
worst_span k = record { first = worst_column k; last = worst_column k }

-- "the first n of these"
abbrev pub worst_spans : ℕ → List Columns
worst_spans n = map worst_span (range 1 n)

-- at how many segments these look together, "laid in order" on a fresh row
abbrev pub worst_looks : ℕ → ℕ
worst_looks n = sum ◌+◌ 0 (looks_in_order 256 fresh (worst_spans n))

-- "the sum of these bounds"
abbrev pub bounds_together : ℕ → ℕ
bounds_together n = sum ◌+◌ 0 (map most_looks (range 1 n))
