-- Cells that are painted over a set of columns.
use mathlib.Core.Path.{◌≡◌, refl, sym, ap, ◌∙◌}
use mathlib.Core.Bool.{Bool, true, false, cond, ◌||◌}
use mathlib.Core.List.{List, [], ◌∷◌}
use Prim.Native.Nat.{ℕ, zero, suc, ◌+◌, ◌<◌}
use native.Mathlib.Nat.{add-zero, add-suc, suc-add, zero-add, le_of_suc-le-suc, not-suc-le-zero}
use native.Mathlib.Omega.{arith}
use lib.ListN.{length, get_or}
use lib.Seq.{ext_get_or}
use Rattle.segments.specs.Columns.{painted_from, painted}

from_length : (i : ℕ) (columns : ℕ → Bool) (panel : ℕ) (cells : List ℕ) → length (painted_from i columns panel cells) ≡ length cells
unfolding painted_from
from_length i columns panel [] = refl
from_length i columns panel (cell ∷ cells) = ap suc (from_length (suc i) columns panel cells)

from_at :
    (i : ℕ) (columns : ℕ → Bool) (panel : ℕ) (cells : List ℕ) (j : ℕ) → j < length cells →
    get_or (painted_from i columns panel cells) j 0 ≡ cond (columns (i + j)) panel (get_or cells j 0)
unfolding painted_from
from_at i columns panel [] j h = absurd (not-suc-le-zero h)
from_at i columns panel (cell ∷ cells) zero h = rw (add-zero i)
from_at i columns panel (cell ∷ cells) (suc j) h = from_at (suc i) columns panel cells j (le_of_suc-le-suc h) ∙ rw (add-suc i j, suc-add i j)

pub painted_length : (columns : ℕ → Bool) (panel : ℕ) (cells : List ℕ) → length (painted columns panel cells) ≡ length cells
painted_length = from_length 0

-- a cell of the painted row
pub painted_at :
    (columns : ℕ → Bool) (panel : ℕ) (cells : List ℕ) (j : ℕ) → j < length cells →
    get_or (painted columns panel cells) j 0 ≡ cond (columns j) panel (get_or cells j 0)
painted_at columns panel cells j h = from_at 0 columns panel cells j h ∙ rw (zero-add j)

-- cells that are as the columns say are the painted row
pub painted_is :
    (columns : ℕ → Bool) (panel : ℕ) (cells cells' : List ℕ) → length cells' ≡ length cells →
    ((j : ℕ) → j < length cells → get_or cells' j 0 ≡ cond (columns j) panel (get_or cells j 0)) →
    cells' ≡ painted columns panel cells
painted_is columns panel cells cells' e at =
    ext_get_or 0 cells' (painted columns panel cells) (e ∙ sym (painted_length columns panel cells))
    (λ j h. at j (omega arith) ∙ sym (painted_at columns panel cells j (omega arith)))

pub painted_congr :
    (u v : ℕ → Bool) (panel : ℕ) (cells : List ℕ) → ((j : ℕ) → j < length cells → u j ≡ v j) →
    painted u panel cells ≡ painted v panel cells
painted_congr u v panel cells same =
    painted_is v panel cells (painted u panel cells) (painted_length u panel cells)
    (λ j h. painted_at u panel cells j h ∙ rw (same j h))

cond_same : (u v : Bool) (panel cell : ℕ) → cond v panel (cond u panel cell) ≡ cond (u || v) panel cell
cond_same true true panel cell = refl
cond_same true false panel cell = refl
cond_same false v panel cell = refl

-- painting twice
pub painted_twice :
    (u v : ℕ → Bool) (panel : ℕ) (cells : List ℕ) →
    painted v panel (painted u panel cells) ≡ painted (λ (j : ℕ). u j || v j) panel cells
painted_twice u v panel cells =
    painted_is (λ (j : ℕ). u j || v j) panel cells (painted v panel (painted u panel cells))
    (painted_length v panel (painted u panel cells) ∙ painted_length u panel cells)
    (λ j h.
    let p : length (painted u panel cells) ≡ length cells = painted_length u panel cells in
    painted_at v panel (painted u panel cells) j (omega arith)
    ∙ rw (painted_at u panel cells j h) (cond_same (u j) (v j) panel (get_or cells j 0)))

-- painting nothing
pub painted_none : (u : ℕ → Bool) (panel : ℕ) (cells : List ℕ) → ((j : ℕ) → j < length cells → u j ≡ false) → painted u panel cells ≡ cells
painted_none u panel cells clear = sym (painted_is u panel cells cells refl (λ j h. rw (clear j h)))
