-- What a function that writes text behind what a buffer holds promises.
use Rattle.std.specs.Prelude.{◌≡◌, List, ◌++◌, ℕ, ◌+◌, ◌≤◌, length}
use Rattle.arrayvec.specs.ArrayVec.{ArrayVec}

-- a buffer for so many bytes has room for the text behind what it holds
abbrev pub Room : List ℕ → ℕ → ArrayVec ℕ → Type 0
Room text most buffer = length buffer.items + length text ≤ most

-- the text stands behind what the buffer held, and nothing behind it
abbrev pub Put : List ℕ → ArrayVec ℕ → ArrayVec ℕ → Type 0
Put text before after = after.items ≡ before.items ++ text
