-- Texts one after the other, and a word of 64 bits as a text.
use Rattle.std.specs.Prelude.{List, [], ◌∷◌, ◌++◌, ℕ, zero, suc, ◌/◌, ◌%◌, get_or}
use Rattle.text.specs.Text.{ascii}

-- the texts of items, one after the other
unfoldable pub each : {A : Type 0} → (A → List ℕ) → List A → List ℕ
each text [] = []
each text (x ∷ xs) = text x ++ each text xs

-- the byte of a hexadecimal digit from 0 to 15
unfoldable pub hex_digit : ℕ → ℕ
hex_digit d = get_or (ascii "0123456789abcdef") d 0

-- the last k hexadecimal digits of n, leading zeros among them, the first one first
unfoldable pub hex_digits : ℕ → ℕ → List ℕ
hex_digits zero n = []
hex_digits (suc k) n = hex_digits k (n / 16) ++ (hex_digit (n % 16) ∷ [])

-- a word of 64 bits, as all of its digits
abbrev pub word_digits : ℕ → List ℕ
word_digits = hex_digits 16

-- a word after a space
unfoldable pub spaced_word : ℕ → List ℕ
spaced_word word = ascii " " ++ word_digits word
