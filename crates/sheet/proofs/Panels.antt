-- The lines of the panels, one after the other.
use mathlib.Core.Path.{◌≡◌, refl, sym, ◌∙◌, ap}
use mathlib.Core.List.{List, [], ◌∷◌, ◌++◌}
use Prim.Native.Nat.{ℕ, zero, suc, ◌+◌, ◌≤◌, ◌<◌}
use native.Mathlib.Numerals.{add-one}
use lib.ListN.{length, drop, get_or, drop_of_length-le}
use lib.Seq.{drop-cons}
use Rattle.text.specs.Text.{decimal, numbers, line}
use Rattle.sheet.specs.Sheet.{panel_line, panel_lines}

-- a panel without cells has no line
pub no_cells : (panel : ℕ) {cells : ℕ} → cells ≡ 0 → panel_line panel cells ≡ []
unfolding panel_line
no_cells panel e = ap (panel_line panel) e

-- a panel with cells has one
pub some_cells : (panel cells : ℕ) → (cells ≡ 0 → ⊥) → panel_line panel cells ≡ decimal panel ++ numbers (cells ∷ [])
unfolding panel_line line
some_cells panel zero h = absurd (h refl)
some_cells panel (suc n) h = refl

-- one panel's line, and those after it
pub lines_from :
    (counts : List ℕ) (panel : ℕ) →
    panel < length counts →
    panel_lines panel (drop panel counts) ≡ panel_line panel (get_or counts panel 0) ++ panel_lines (panel + 1) (drop (panel + 1) counts)
unfolding panel_lines
lines_from counts panel h =
    ap (panel_lines panel) (drop-cons counts panel 0 h)
    ∙ ap (λ (n : ℕ). panel_line panel (get_or counts panel 0) ++ panel_lines n (drop n counts)) (sym (add-one panel))

-- when the counts are passed, no line is left
pub lines_none : (counts : List ℕ) (panel : ℕ) → length counts ≤ panel → panel_lines panel (drop panel counts) ≡ []
unfolding panel_lines
lines_none counts panel h = ap (panel_lines panel) (drop_of_length-le counts h)
