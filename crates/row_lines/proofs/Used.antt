-- The used pairs of a row that is lent whole: they are no more than the row.
use mathlib.Core.Path.{◌≡◌, ◌∙◌, ap}
use mathlib.Core.Bool.{cond}
use mathlib.Core.List.{List, [], ◌∷◌}
use Prim.Native.Nat.{ℕ, zero, suc, ◌≤◌}
use native.Mathlib.Omega.{arith}
use lib.Dec.{leb}
use lib.ListN.{length, take}
use lib.Seq.{take_all}
use Rattle.model.specs.Row.{used_pairs, used_part}

-- They are no more than the numbers of a row of any length. No proof cites this: how long their text is, `used_text_length` says
pub pairs_length : (row : List ℕ) → length (used_pairs row) ≤ length row
unfolding used_pairs
pairs_length [] = omega arith
pairs_length (offset ∷ []) = omega arith
pairs_length (offset ∷ zero ∷ row) = omega arith
pairs_length (offset ∷ suc n ∷ row) = omega (arith, pairs_length row)

pub used_whole : (row : List ℕ) → length row ≡ 256 → used_part row 0 ≡ used_pairs row
unfolding used_part
used_whole row long =
    ap (λ (n : ℕ). cond (leb 256 n) (used_pairs (take 256 row)) []) long ∙ ap used_pairs (take_all 256 row (omega arith))
