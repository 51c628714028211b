-- The numbers of rows, added.
use mathlib.Core.Path.{◌≡◌, refl, sym, ap, ◌∙◌}
use mathlib.Core.Logic.{◌⊎◌, ◌≢◌, inl, inr}
use mathlib.Core.Bool.{Bool, true, false, cond}
use mathlib.Core.List.{map, sum}
use Prim.Native.Nat.{ℕ, zero, suc, ◌+◌, ◌*◌, ◌≤◌, ◌<◌}
use native.Mathlib.Numerals.{add-one}
use native.Mathlib.Omega.{arith}
use Rattle.model.specs.Lists.{range}
use Rattle.model.proofs.Tests.{lt_or_ge}
use Rattle.cells.proofs.Adding.{sum_last}

-- the numbers of the first rows
abbrev pub total : (ℕ → ℕ) → ℕ → ℕ
total f rows = sum ◌+◌ 0 (map f (range 0 rows))

pub total_none : (f : ℕ → ℕ) → total f 0 ≡ 0
unfolding sum
total_none f = refl

-- one row more, as a successor: the laws below go by induction over the rows
total_more : (f : ℕ → ℕ) (j : ℕ) → total f (suc j) ≡ total f j + f j
total_more f j = ap (total f) (sym (add-one j)) ∙ sum_last f j

pub total_same : (f g : ℕ → ℕ) (rows : ℕ) → ((j : ℕ) → j < rows → f j ≡ g j) → total f rows ≡ total g rows
total_same f g zero same = total_none f ∙ sym (total_none g)
total_same f g (suc rows) same =
    omega (arith, total_more f rows, total_more g rows, total_same f g rows (λ j h. same j (omega arith)), same rows (omega arith))

-- where each row's number grows by another, so do all together
pub total_adds :
    (f g h : ℕ → ℕ) (b : Bool) (rows : ℕ) → ((j : ℕ) → f j ≡ g j + cond b (h j) 0) →
    total f rows ≡ total g rows + cond b (total h rows) 0
total_adds f g h true zero each = omega (arith, total_none f, total_none g, total_none h)
total_adds f g h true (suc rows) each =
    omega (arith, total_more f rows, total_more g rows, total_more h rows, total_adds f g h true rows each, each rows)
total_adds f g h false rows each = omega (arith, total_same f g rows (λ j l. omega (arith, each j)))

pub total_most : (f : ℕ → ℕ) (rows : ℕ) → ((j : ℕ) → f j ≤ 256) → total f rows ≤ 256 * rows
total_most f zero low = omega (arith, total_none f)
total_most f (suc rows) low = omega (arith, total_more f rows, total_most f rows low, low rows)

-- rows that all have 0
pub total_clear : (f : ℕ → ℕ) (rows : ℕ) → ((j : ℕ) → j < rows → f j ≡ 0) → total f rows ≡ 0
total_clear f zero clear = total_none f
total_clear f (suc rows) clear = omega (arith, total_more f rows, total_clear f rows (λ j h. clear j (omega arith)), clear rows (omega arith))

-- where one row's number comes to the others
pub total_one :
    (f g : ℕ → ℕ) (j rows : ℕ) → j < rows → ((m : ℕ) → m < rows → m ≢ j → g m ≡ f m) → f j ≡ 0 → total g rows ≡ total f rows + g j
total_one f g j zero h same clear = absurd (omega arith)
total_one f g j (suc rows) h same clear = go (lt_or_ge j rows) (λ l. total_one f g j rows l (λ m b. same m (omega arith)) clear)
  where
    go : (j < rows) ⊎ (rows ≤ j) → (j < rows → total g rows ≡ total f rows + g j) → total g (suc rows) ≡ total f (suc rows) + g j
    go (inl l) before =
        omega (
          arith,
          total_more f rows,
          total_more g rows,
          before l,
          same rows (omega arith) (λ e. absurd (omega arith)),
        )
    go (inr l) before =
        let e : rows ≡ j = omega arith in
        omega (
          arith,
          total_more f rows,
          total_more g rows,
          ap f e,
          ap g e,
          clear,
          total_same g f rows (λ m b. same m (omega arith) (λ z. absurd (omega arith))),
        )
