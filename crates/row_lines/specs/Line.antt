-- A row, its words of the lit map and its cells, as a line of text.
use Rattle.std.specs.Prelude.{List, ◌++◌, ℕ}
use Rattle.text.specs.Text.{ascii, decimal, spaced}
use Rattle.numerals.specs.Listing.{each, spaced_word}
use Rattle.model.specs.Row.{used_pairs}

-- how a line begins: its number, the numbers reported, and a colon
unfoldable pub beginning : ℕ → List ℕ → List ℕ
beginning number reported = decimal number ++ each spaced reported ++ ascii ":"

-- a line of pairs, words and cells, with a bar before and after the words
unfoldable pub fields : ℕ → List ℕ → List ℕ → List ℕ → List ℕ → List ℕ
fields number reported pairs words cells =
    beginning number reported
    ++ each spaced pairs
    ++ ascii " |"
    ++ each spaced_word words
    ++ ascii " |"
    ++ each spaced cells
    ++ ascii "\n"

-- the line of a row: of its pairs those that are used
abbrev pub row_line : ℕ → List ℕ → List ℕ → List ℕ → List ℕ → List ℕ
row_line number reported row = fields number reported (used_pairs row)
