-- Worked lines: every hexadecimal digit in its place, leading zeros, and a row's line.
use mathlib.Core.Path.{◌≡◌, refl}
use mathlib.Core.Bool.{false}
use mathlib.Core.List.{[], ◌∷◌}
use Rattle.text.specs.Text.{ascii, digits_within, decimal, spaced}
use Rattle.model.specs.Row.{used_pairs}
use Rattle.numerals.specs.Listing.{each, hex_digit, hex_digits, word_digits, spaced_word}
use Rattle.row_lines.specs.Line.{beginning, fields, row_line}
use Rattle.row_lines.specs.Told.{reported}

pub every_digit : word_digits 81985529216486895 ≡ ascii "0123456789abcdef"
unfolding hex_digit hex_digits
every_digit = refl

-- line 3, of a row of five columns whose columns 1, 3 and 4 are unlit, with 2 segments looked at and 1 cell newly lit
pub line_of_three :
    row_line 3 (reported false 1 2) (1 ∷ 1 ∷ 3 ∷ 2 ∷ 0 ∷ 0 ∷ []) (5 ∷ 0 ∷ []) (1 ∷ 0 ∷ 12 ∷ 0 ∷ 0 ∷ [])
    ≡ ascii "3 2 1 0: 1 1 3 2 | 0000000000000005 0000000000000000 | 1 0 12 0 0\n"
unfolding digits_within decimal spaced used_pairs each hex_digit hex_digits spaced_word beginning fields
line_of_three = refl
