-- What writing a text came to. Of a writer whose bytes are not known nothing is said, as of a file.
use Rattle.std.specs.Prelude.{List, ℕ, take, Option, Result, MatchResult}
use Rattle.std.specs.Io.KnownBytes.{Appends, Keeps}

-- the writer's bytes grew by a beginning of the text, all of it or less
abbrev pub AppendsPart : Option (List ℕ) → Option (List ℕ) → List ℕ → Type 0
AppendsPart held held' text = (n : ℕ) × Appends held held' (take n text)

module _ {E : Type 0} where
  -- all of the text was written, or, at an error, a beginning of it
  abbrev pub Wrote : Option (List ℕ) → Option (List ℕ) → List ℕ → Result (Unit {0}) E → Type 0
  Wrote held held' text written = MatchResult written (λ _. Appends held held' text) (λ _. AppendsPart held held' text)

  -- all of the text was written and nothing told; or, at an error, a beginning of it was written, and then the message told, or as much of it as could be
  abbrev pub WroteOrTold : Option (List ℕ) → Option (List ℕ) → List ℕ → Option (List ℕ) → Option (List ℕ) → List ℕ → Result (Unit {0}) E → Type 0
  WroteOrTold held held' text errors errors' message written =
      MatchResult written (λ _. Appends held held' text × Keeps errors errors') (λ _. AppendsPart held held' text × AppendsPart errors errors' message)
