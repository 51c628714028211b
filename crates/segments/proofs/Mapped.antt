-- The row and the lit map of a set of unlit columns describe the same cells; and the words of a fresh row.
use mathlib.Core.Path.{◌≡◌, refl, sym, ap, ◌∙◌}
use mathlib.Core.Bool.{Bool, true, false, not, ◌&&◌, and-false}
use mathlib.Core.List.{[], ◌∷◌}
use Prim.Native.Nat.{ℕ, ◌+◌, ◌*◌, ◌≤◌}
use lib.Dec.{ltb}
use Rattle.model.specs.Row.{row_of, used_pairs, in_pairs}
use Rattle.model.specs.Map.{row_words, lit_column, number_of, word_of, map_word, map_row, SameCells}
use Rattle.model.proofs.Bits.{word_congr}
use Rattle.model.proofs.LitMap.{map_bit}
use Rattle.model.proofs.Tables.{same_table}
use Rattle.segments.proofs.Rows.{row_describes}

-- the pairs of a set's row leave the set's columns lit
pub pairs_column :
    (width : ℕ) → width ≤ 256 → (unlit : ℕ → Bool) (i : ℕ) → lit_column width (in_pairs (used_pairs (row_of width unlit))) i ≡ lit_column width unlit i
pairs_column width fits unlit i = ap (λ (b : Bool). ltb i width && not b) (row_describes width fits unlit i) ∙ go (ltb i width)
  where
    go : (b : Bool) → (b && not (b && unlit i)) ≡ (b && not (unlit i))
    go true = refl
    go false = refl

pub same_of_set : (width : ℕ) → width ≤ 256 → (unlit : ℕ → Bool) → SameCells width (row_of width unlit) (map_row width unlit)
unfolding SameCells
same_of_set width fits unlit i h = map_bit width unlit i h ∙ sym (pairs_column width fits unlit i)

-- where no column is lit the words are four zeros
pub fresh_map : (width : ℕ) → 0 ∷ 0 ∷ 0 ∷ 0 ∷ [] ≡ map_row width (λ (i : ℕ). true)
unfolding map_row number_of
fresh_map width =
    sym (same_table (map_word width (λ (i : ℕ). true)) (λ (k : ℕ). word_of (λ (b : ℕ). false)) 0 0 row_words (λ k h. word_congr _ _ (λ b l. and-false (ltb (64 * (0 + k) + b) width))))
