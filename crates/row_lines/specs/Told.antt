-- What is told of a span that is laid.
use Rattle.std.specs.Prelude.{◌≡◌, Bool, cond, List, [], ◌∷◌, ℕ, Option, Result}
use Rattle.console.specs.Writing.{WroteOrTold}
use Rattle.rows.specs.Span.{Reports}
use Rattle.row_lines.specs.Line.{row_line}

-- what laying a span reported, as numbers: the segments looked at, the cells newly lit, and 1 where no column is unlit any more
abbrev pub reported : Bool → ℕ → ℕ → List ℕ
reported full lit looked = looked ∷ lit ∷ cond full 1 0 ∷ []

-- The line is that of a span laid on the row of the set `unlit`: what laying it reported, and the row, the words and the cells that it left.
pub record Told (unlit : ℕ → Bool) (first last width number : ℕ) (row' words' cells' told : List ℕ) : Type 0 where
  pub full : Bool
  pub lit : ℕ
  pub looked : ℕ
  pub reports : Reports unlit first last width full lit looked
  pub line : told ≡ row_line number (reported full lit looked) row' words' cells'

-- The line of a span laid on the row of the set `unlit` is written whole, or a beginning of it, and then the message is told, or as much of it as can be.
pub record WritesTold {E : Type 0} (unlit : ℕ → Bool) (first last width number : ℕ) (row' words' cells' : List ℕ) (held held' errors errors' : Option (List ℕ)) (message : List ℕ) (written : Result (Unit {0}) E) : Type 0 where
  pub full : Bool
  pub lit : ℕ
  pub looked : ℕ
  pub reports : Reports unlit first last width full lit looked
  pub line : WroteOrTold held held' (row_line number (reported full lit looked) row' words' cells') errors errors' message written
