-- The lines that a bill is made of, from its numbers.
use Rattle.std.specs.Prelude.{List, [], ◌∷◌, ◌++◌, ℕ, zero, suc, ◌*◌, drop, get_or}
use Rattle.text.specs.Text.{ascii, decimal, line}

-- "first line: width, height, lens"
abbrev pub view_line : ℕ → ℕ → ℕ → List ℕ
view_line width height lens = line (ascii "view") (width ∷ height ∷ lens ∷ [])

-- "then each panel with a count .. and its count": a panel without cells has no line
unfoldable pub panel_line : ℕ → ℕ → List ℕ
panel_line panel zero = []
panel_line panel (suc n) = line (decimal panel) (suc n ∷ [])

-- "rising": the lines of the panels from one on, whose counts these are
unfoldable pub panel_lines : ℕ → List ℕ → List ℕ
panel_lines panel [] = []
panel_lines panel (n ∷ ns) = panel_line panel n ++ panel_lines (suc panel) ns

-- the panels begin with 1: entry 0 of the counts is for "nothing"
abbrev pub panel_list : List ℕ → List ℕ
panel_list counts = panel_lines 1 (drop 1 counts)

-- "cells with none": this line is there also when there are none
abbrev pub nothing_line : ℕ → List ℕ
nothing_line cells = line (ascii "nothing") (cells ∷ [])

-- "all cells"
abbrev pub total_line : ℕ → List ℕ
total_line cells = line (ascii "total") (cells ∷ [])

-- A sheet is the bill of an accepted call:
-- "in full (first line: width, height, lens; then each panel with a count, rising, and its count; cells with none; all cells)"
unfoldable pub sheet : ℕ → ℕ → ℕ → List ℕ → List ℕ
sheet width height lens counts =
    view_line width height lens ++ panel_list counts ++ nothing_line (get_or counts 0 0) ++ total_line (width * height)

-- "a refusal prints `refused N`"
unfoldable pub refusal : ℕ → List ℕ
refusal n = line (ascii "refused") (n ∷ [])
