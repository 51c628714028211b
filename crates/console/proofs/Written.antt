-- A text that was written whole, or in part, was written in part.
use Rattle.std.proofs.Common.{ℕ, List, Option, Result, Ok, Err, length, sym, subst}
use lib.Seq.{take-length}
use Rattle.std.specs.Io.KnownBytes.{Appends}
use Rattle.console.specs.Writing.{AppendsPart, Wrote}

pub in_part : {E : Type 0} (held held' : Option (List ℕ)) (text : List ℕ) (written : Result (Unit {0}) E) → Wrote held held' text written → AppendsPart held held' text
in_part held held' text (Ok _) w = (length text, subst (Appends held held') (sym (take-length text)) w)
in_part held held' text (Err _) w = w
