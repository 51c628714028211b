-- The worst spans and their sums, worked out.
use mathlib.Core.Path.{◌≡◌, refl}
use mathlib.Core.List.{[], ◌∷◌, map, sum}
use Rattle.worst_case.specs.WorstCase.{worst_column, bounds_together}

pub columns_worked :
    map worst_column (0 ∷ 1 ∷ 2 ∷ 3 ∷ 127 ∷ 128 ∷ 129 ∷ 300 ∷ 18446744073709551615 ∷ [])
    ≡ 1 ∷ 1 ∷ 3 ∷ 5 ∷ 253 ∷ 255 ∷ 255 ∷ 255 ∷ 255 ∷ []
columns_worked = refl

pub sums_worked :
    map bounds_together (0 ∷ 1 ∷ 2 ∷ 3 ∷ 127 ∷ 128 ∷ 129 ∷ 300 ∷ 1000 ∷ 1024 ∷ [])
    ≡ 0 ∷ 1 ∷ 3 ∷ 6 ∷ 8128 ∷ 8256 ∷ 8384 ∷ 30272 ∷ 119872 ∷ 122944 ∷ []
unfolding sum
sums_worked = refl
