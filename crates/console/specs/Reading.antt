-- What reading an input came to: so many bytes, or an error, after which nothing is said.
use Rattle.std.specs.Prelude.{◌≡◌, ◌<◌, ◌≤◌, List, ℕ, length, take, Option, Result, IfOk}
use Rattle.std.specs.Io.KnownBytes.{Consumes, IsAtEnd}

module _ {E : Type 0} where
  -- so many bytes, no more than the buffer has
  abbrev pub ReadInto : Result ℕ E → List ℕ → Type 0
  ReadInto got buffer = IfOk got (λ n. (n ≤ length buffer) × (n ≡ length (take n buffer)))

  -- these bytes are the next that the reader had left, and it lost them; of a reader whose bytes are not known nothing is said, as of a file
  abbrev pub TakesNext : Option (List ℕ) → Option (List ℕ) → Result ℕ E → List ℕ → Type 0
  TakesNext left left' got buffer = IfOk got (λ n. Consumes left left' (take n buffer))

  -- no byte was read into a buffer that has room only where none is left
  abbrev pub EndsAtNone : Option (List ℕ) → Result ℕ E → List ℕ → Type 0
  EndsAtNone left' got buffer = IfOk got (λ n. n ≡ 0 → 0 < length buffer → IsAtEnd left')

  -- fewer bytes than the buffer has were read only where none is left
  abbrev pub EndsShort : Option (List ℕ) → Result ℕ E → List ℕ → Type 0
  EndsShort left' got buffer = IfOk got (λ n. n < length buffer → IsAtEnd left')
