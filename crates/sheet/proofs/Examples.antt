-- A worked sheet: "each panel with a count, rising", so that panel 2 has no line, and "nothing" also at 0.
use mathlib.Core.Path.{◌≡◌, refl}
use mathlib.Core.List.{[], ◌∷◌}
use Rattle.text.specs.Text.{ascii, digits_within, decimal, spaced, numbers, line}
use Rattle.sheet.specs.Sheet.{panel_line, panel_lines, sheet}

pub sheet_of_two : sheet 4 1 4 (0 ∷ 1 ∷ 0 ∷ 3 ∷ []) ≡ ascii "view 4 1 4\n1 1\n3 3\nnothing 0\ntotal 4\n"
unfolding digits_within decimal spaced numbers line panel_line panel_lines sheet
sheet_of_two = refl
