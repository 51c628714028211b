-- The lit map (document 02, F-8): "Beside the unlit lists stand four u64 words a row". A word is read by its bits, the least significant first.
use Rattle.std.specs.Prelude.{◌≡◌, Bool, cond, not, ◌&&◌, List, [], ◌∷◌, map, ℕ, zero, suc, ◌+◌, ◌*◌, ◌/◌, ◌%◌, ◌^◌, ◌<◌, eqb, leb, ltb, length, get_or, take, drop}
use Rattle.model.specs.Lists.{range, add_if, tally}
use Rattle.model.specs.Row.{used_pairs, in_pairs}

-- a row's words, and their bits
abbrev pub row_words : ℕ
row_words = 4

abbrev pub row_bits : ℕ
row_bits = 256

-- bit b of a word
abbrev pub bit_of : ℕ → ℕ → Bool
bit_of word b = eqb (word / 2 ^ b % 2) 1

-- the number that has these bits
unfoldable pub number_of : List Bool → ℕ
number_of [] = 0
number_of (b ∷ bs) = add_if b (2 * number_of bs)

-- the word whose bit b is the test of b
abbrev pub word_of : (ℕ → Bool) → ℕ
word_of test = number_of (map test (range 0 64))

-- column i of a row with these unlit columns is lit; "Columns beyond the width stay clear."
abbrev pub lit_column : ℕ → (ℕ → Bool) → ℕ → Bool
lit_column width unlit i = ltb i width && not (unlit i)

-- word k of a row with these unlit columns: it has the columns from 64 × k on
abbrev pub map_word : ℕ → (ℕ → Bool) → ℕ → ℕ
map_word width unlit k = word_of (λ (b : ℕ). lit_column width unlit (64 * k + b))

-- and its four words: all columns for a width up to 256, which question 10 sees to; what is past 256 columns is cut off
unfoldable pub map_row : ℕ → (ℕ → Bool) → List ℕ
map_row width unlit = map (map_word width unlit) (range 0 row_words)

-- column i in the words of a row: "bit i mod 64 of word i / 64 set when column i is lit". A word past the end reads 0.
unfoldable pub lit_at : List ℕ → ℕ → Bool
lit_at words i = bit_of (get_or words (i / 64) 0) (i % 64)

-- "Map and list describe the same cells": each column of the row that is in none of the list's used pairs is lit in the map, and no other is.
unfoldable pub SameCells : ℕ → List ℕ → List ℕ → Type 0
SameCells width row words = (i : ℕ) → i < row_bits → lit_at words i ≡ lit_column width (in_pairs (used_pairs row)) i

-- row j's words in a map
abbrev pub words_of : List ℕ → ℕ → List ℕ
words_of lit j = take row_words (drop (row_words * j) lit)

-- the map has all of them: "a row not wholly inside the map answers 0 to both"
abbrev pub inside_map : List ℕ → ℕ → Bool
inside_map lit j = leb (row_words * (j + 1)) (length lit)

-- "Lit cells are counted by the ones of a word": the ones of the row's words
unfoldable pub lit_cells : List ℕ → ℕ → ℕ
lit_cells lit j = cond (inside_map lit j) (tally (lit_at (words_of lit j)) (range 0 row_bits)) 0

-- the first of `count` numbers from `from` on that passes the test, or the number after them
abbrev pub first_of : (ℕ → Bool) → ℕ → ℕ → ℕ
first_of test from zero = from
first_of test from (suc count) = cond (test from) from (first_of test (suc from) count)

-- "the first unlit column .., the width where all are lit". A column past the row's words is not lit, so the answer is at most 256.
unfoldable pub first_unlit : List ℕ → ℕ → ℕ → ℕ
first_unlit lit width j = cond (inside_map lit j) (first_of (λ (i : ℕ). not (lit_at (words_of lit j) i)) 0 width) 0
