-- The numbers of a table, added up, and one added to an entry.
use mathlib.Core.Path.{◌≡◌, refl, sym, ap, ◌∙◌}
use mathlib.Core.Bool.{cond}
use mathlib.Core.List.{List, [], ◌∷◌, map, map-append, sum, sum-append}
use Prim.Native.Nat.{ℕ, ◌+◌, ◌<◌}
use native.Mathlib.Nat.{add-zero, zero-add, add_assoc}
use native.Mathlib.Decide.{ℕ_discrete}
use lib.Dec.{eqb}
use lib.ListN.{length, get_or, set}
use lib.Seq.{get_or-set_same, get_or-set_other}
use borrow.Author.Tests.{eq-eqb, ne_eqb}
use Rattle.model.specs.Lists.{range}
use Rattle.model.proofs.Ranges.{range_append}

-- the last of the numbers of a table, added
pub sum_last : (f : ℕ → ℕ) (k : ℕ) → sum ◌+◌ 0 (map f (range 0 (k + 1))) ≡ sum ◌+◌ 0 (map f (range 0 k)) + f k
unfolding sum
sum_last f k =
    ap (λ (l : List ℕ). sum ◌+◌ 0 (map f l)) (range_append 0 k 1)
    ∙ ap (λ (l : List ℕ). sum ◌+◌ 0 l) (map-append f (range 0 k) (range (0 + k) 1))
    ∙ sum-append {A = ℕ} ◌+◌ 0 zero-add add_assoc (map f (range 0 k)) (f (0 + k) ∷ [])
    ∙ ap (λ (m : ℕ). sum ◌+◌ 0 (map f (range 0 k)) + m) (add-zero (f (0 + k)) ∙ ap f (zero-add k))

-- an entry to which a number is added, among the others
pub grown : (l : List ℕ) (m v n : ℕ) → m < length l → get_or (set l m (get_or l m 0 + v)) n 0 ≡ get_or l n 0 + cond (eqb m n) v 0
grown l m v n h = go (ℕ_discrete n m)
  where
    go : Dec (n ≡ m) → get_or (set l m (get_or l m 0 + v)) n 0 ≡ get_or l n 0 + cond (eqb m n) v 0
    go (yes e) = rw (e, eq-eqb m m refl) (get_or-set_same l m (get_or l m 0 + v) 0 h)
    go (no f) = get_or-set_other l m n (get_or l m 0 + v) 0 f ∙ rw (ne_eqb m n (λ e. f (sym e))) (sym (add-zero (get_or l n 0)))
