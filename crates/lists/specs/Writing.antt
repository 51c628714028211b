-- Rows of one length, written to one list, row after row.
use Rattle.std.specs.Prelude.{◌≡◌, ℕ, ◌*◌, ◌≤◌, length}
use mathlib.Core.List.{List, map, flatten}
use Rattle.model.specs.Lists.{range}

-- what writing rows asks: at most 128 rows of `width` numbers each, and a list with just the room for them
pub record WritingAsked {A : Type 0} (width height : ℕ) (list : List A) : Type 0 where
  pub low : height ≤ 128
  pub room : length list ≡ height * width

-- the first `height` rows as one list
abbrev pub row_after_row : {A : Type 0} → ℕ → (ℕ → List A) → List A
row_after_row height row = flatten (map row (range 0 height))
