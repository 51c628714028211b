-- The row of a set that is empty, and the row of all columns.
use mathlib.Core.Path.{◌≡◌, refl, sym, ◌∙◌}
use mathlib.Core.Logic.{◌⊎◌, inl, inr}
use mathlib.Core.Bool.{Bool, true, false, not, ◌||◌, or-true}
use mathlib.Core.List.{List, [], ◌∷◌, ◌++◌}
use Prim.Native.Nat.{ℕ, zero, suc, ◌+◌, ◌*◌, ◌-◌, ◌≤◌, ◌<◌}
use native.Mathlib.Omega.{arith}
use lib.Dec.{eqb}
use lib.ListN.{length, get_or, set}
use borrow.Author.Tests.{ne_eqb}
use Rattle.model.specs.Lists.{any, range}
use Rattle.model.specs.Row.{Segment, segments, numbers_of, row_of}
use Rattle.segments.specs.Columns.{all_lit}
use Rattle.segments.specs.Segments.{Ordered, none, more}
use Rattle.model.proofs.Tests.{lt_or_ge}
use Rattle.segments.proofs.Segments.{member, column_inside}
use Rattle.segments.proofs.Sets.{segments_ordered, segments_member, segments_unique}
use Rattle.segments.proofs.Rows.{zeros, row_parts}

any_none : (unlit : ℕ → Bool) (n i : ℕ) → ((j : ℕ) → i ≤ j → j < i + n → unlit j ≡ false) → any unlit (range i n) ≡ false
any_none unlit zero i clear = refl
any_none unlit (suc n) i clear = rw (clear i (omega arith) (omega arith)) (any_none unlit n (suc i) (λ j h l. clear j (omega arith) (omega arith)))

any_some : (unlit : ℕ → Bool) (n i j : ℕ) → i ≤ j → j < i + n → unlit j ≡ true → any unlit (range i n) ≡ true
any_some unlit zero i j h l e = absurd (omega arith)
any_some unlit (suc n) i j h l e = go (lt_or_ge i j) (λ k. any_some unlit n (suc i) j k (omega arith) e)
  where
    go : (i < j) ⊎ (j ≤ i) → (i < j → any unlit (range (suc i) n) ≡ true) → (unlit i || any unlit (range (suc i) n)) ≡ true
    go (inl k) later = rw (later k) (or-true (unlit i))
    go (inr k) later = let q : i ≡ j = omega arith in rw (q, e)

second_zero : (n : ℕ) → get_or (zeros n) 1 0 ≡ 0
second_zero zero = refl
second_zero (suc zero) = refl
second_zero (suc (suc n)) = refl

-- the row's first length is 0 where no column is unlit
pub first_length : (width : ℕ) → width ≤ 256 → (unlit : ℕ → Bool) → eqb (get_or (row_of width unlit) 1 0) 0 ≡ all_lit width unlit
unfolding all_lit numbers_of member
first_length width fits unlit =
    rw (row_parts width fits unlit)
    (go (segments width unlit) (256 - 2 * length (segments width unlit)) (segments_ordered width unlit) (segments_member width unlit))
  where
    go :
        (ss : List Segment) (n : ℕ) → Ordered width 0 ss → ((i : ℕ) → i < width → member ss i ≡ unlit i) →
        eqb (get_or (numbers_of ss ++ zeros n) 1 0) 0 ≡ not (any unlit (range 0 width))
    go [] n o same = rw (second_zero n, any_none unlit width 0 (λ j h l. sym (same j (omega arith))))
    go (s ∷ ss) n (more _ _ p o) same =
        rw (
          ne_eqb s.count 0 (λ e. omega arith),
          any_some unlit width 0 s.offset (omega arith) (omega arith) (sym (same s.offset (omega arith)) ∙ rw (column_inside s s.offset (omega arith) (omega arith))),
        )

-- the row of which every column is unlit
pub all_columns : (n : ℕ) → segments (suc n) (λ (i : ℕ). true) ≡ record { offset = 0; count = suc n } ∷ []
unfolding member
all_columns n =
    let s : Segment = record { offset = 0; count = suc n } in
    segments_unique (suc n) (λ (i : ℕ). true) (s ∷ []) (more 0 s (omega arith) none) (λ i h. sym (rw (column_inside s i (omega arith) (omega arith))))

pub fresh_row : (width : ℕ) → set (zeros 256) 1 width ≡ row_of width (λ (i : ℕ). true)
unfolding row_of numbers_of
fresh_row zero = rw (segments_unique 0 (λ (i : ℕ). true) [] none (λ i h. absurd (omega arith)))
fresh_row (suc n) = rw (all_columns n)
