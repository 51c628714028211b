-- Laying a span of columns on a row and in its words of the lit map, and what that reports.
use Rattle.std.specs.Prelude.{◌≡◌, Bool, ◌&&◌, List, [], ℕ}
use Rattle.model.specs.Lists.{range, tally}
use Rattle.model.specs.Row.{after_span}
use Rattle.model.specs.Map.{map_row}
use Rattle.segments.specs.Columns.{in_span, all_lit}
use Rattle.segments.specs.Looks.{looks}
use Rattle.laying.specs.Laid.{Row}
use Rattle.rows.specs.declared.RowUnderWork.{RowUnderWork}

-- what stands beyond the last row of a list of them
abbrev pub no_row : RowUnderWork
no_row = record { pairs = []; words = [] }

-- the row and its words of the lit map are those of one set of unlit columns
pub record UnderWork (width : ℕ) (row words : List ℕ) : Type 0 where
  pub listed : Row width row
  pub words_are : words ≡ map_row width listed.unlit

-- what it reports: whether no column is unlit any more; how many it newly lit, those that were unlit and lie in the span; and how many segments it looked at.
-- Document 02, F-2: "Laying a span on a row now also says how many cells it newly lit." F-6: "The number looked at is reported, and equals that definition."
pub record Reports (unlit : ℕ → Bool) (first last width : ℕ) (full : Bool) (lit looked : ℕ) : Type 0 where
  pub full_is : full ≡ all_lit width (after_span unlit first last)
  pub lit_is : lit ≡ tally (λ (i : ℕ). unlit i && in_span first last i) (range 0 width)
  pub looked_is : looked ≡ looks width unlit (record { first = first; last = last })
