-- The worst spans reach the bound each, so their sum, for every n; no spans are worse; and what the sum is.
use mathlib.Core.Path.{◌≡◌, refl, sym, ap, ap₂, ◌∙◌}
use mathlib.Core.Logic.{◌⊎◌, inl, inr}
use mathlib.Core.Bool.{Bool}
use mathlib.Core.List.{List, ◌∷◌, map, map-append, sum, sum-append}
use Prim.Native.Nat.{ℕ, zero, suc, ◌+◌, ◌*◌, ◌≤◌, ◌<◌, min}
use native.Mathlib.Nat.{zero-add, add_assoc}
use native.Mathlib.Omega.{arith}
use lib.Dec.{eqb}
use lib.ListN.{length}
use borrow.Author.Tests.{le-leb, eqb-true}
use Rattle.model.specs.Lists.{range}
use Rattle.model.specs.Row.{segments, after_span}
use Rattle.segments.specs.Looks.{Columns, looked_at, looks, fresh, looks_in_order, most_looks}
use Rattle.worst_case.specs.WorstCase.{worst_column, worst_span, worst_spans, worst_looks, bounds_together}
use Rattle.model.proofs.Tests.{lt_or_ge, every_true, true_of}
use Rattle.model.proofs.Ranges.{in_range, range_append}
use Rattle.segments.proofs.Cut.{cut, segments_cut}
use Rattle.segments.proofs.Full.{all_columns}
use Rattle.segments.proofs.Looking.{fresh_one, together_bounded}
use Rattle.worst_case.proofs.Comb.{comb, comb_rest, comb_grows, comb_stays, looked_growing, looked_whole}

-- m spans were laid: the next one
module _ (m : ℕ) (unlit : ℕ → Bool) (laid : segments 256 unlit ≡ comb 0 (min m 128)) where
  abbrev c : ℕ
  c = worst_column (suc m)

  next_looks : looks 256 unlit (worst_span (suc m)) ≡ most_looks (suc m)
  unfolding looks
  next_looks = rw (le-leb c c (omega arith), laid) (go (lt_or_ge m 128))
    where
      go : (m < 128) ⊎ (128 ≤ m) → looked_at c (comb 0 (min m 128)) ≡ min (suc m) 128
      go (inl h) =
          let e : min m 128 ≡ m = omega arith in
          rw e (looked_growing m 0 c (omega arith) (omega arith) ∙ omega arith)
      go (inr h) =
          let e : min m 128 ≡ 128 = omega arith in
          let d : c ≡ 255 = omega arith in
          rw (e, d) (looked_whole 128 0 refl ∙ omega arith)

  next_laid : segments 256 (after_span unlit c c) ≡ comb 0 (min (suc m) 128)
  next_laid = segments_cut 256 unlit c c (omega arith) ∙ rw laid (go (lt_or_ge m 128))
    where
      go : (m < 128) ⊎ (128 ≤ m) → cut c c (comb 0 (min m 128)) ≡ comb 0 (min (suc m) 128)
      go (inl h) =
          let e : min m 128 ≡ m = omega arith in
          let f : min (suc m) 128 ≡ suc m = omega arith in
          rw (e, f) (comb_grows m 0 c (omega arith) (omega arith))
      go (inr h) =
          let e : min m 128 ≡ 128 = omega arith in
          let f : min (suc m) 128 ≡ 128 = omega arith in
          let d : c ≡ 255 = omega arith in
          rw (e, f, d) (comb_stays 128 0 refl)

in_order : (n m : ℕ) (unlit : ℕ → Bool) → segments 256 unlit ≡ comb 0 (min m 128) →
    looks_in_order 256 unlit (map worst_span (range (suc m) n)) ≡ map most_looks (range (suc m) n)
unfolding looks_in_order
in_order zero m unlit laid = refl
in_order (suc n) m unlit laid =
    ap₂ ◌∷◌ (next_looks m unlit laid)
    (in_order n (suc m) (after_span unlit (worst_column (suc m)) (worst_column (suc m))) (next_laid m unlit laid))

fresh_comb : segments 256 fresh ≡ comb 0 0
fresh_comb = all_columns 255 ∙ sym (comb_rest 0 (omega arith))

-- each span reaches its own bound
pub worst_each : (n : ℕ) → looks_in_order 256 fresh (worst_spans n) ≡ map most_looks (range 1 n)
worst_each n = in_order n 0 fresh fresh_comb

-- "for every n the first n of these, laid in order, reach the sum of these bounds"
pub worst_reach : (n : ℕ) → worst_looks n ≡ bounds_together n
worst_reach n = ap (sum ◌+◌ 0) (worst_each n)

-- "The mount's builder wants the dearest row known." On a fresh row of any width no spans, as many, look at more segments together.
pub none_worse :
    (width : ℕ) → width ≤ 256 → (cs : List Columns) →
    sum ◌+◌ 0 (looks_in_order width fresh cs) ≤ worst_looks (length cs)
none_worse width fits cs =
    rw (worst_reach (length cs)) (together_bounded width fits cs 0 fresh (fresh_one width))

-- n bounds are at most 128 n together
pub bounds_few : (m n : ℕ) → sum ◌+◌ 0 (map most_looks (range m n)) ≤ 128 * n
unfolding sum
bounds_few m zero = omega arith
bounds_few m (suc n) = omega (arith, bounds_few (suc m) n)

-- ---- the sum in closed form: n (n + 1) / 2 up to 128 spans, and 128 more with each further one

bounds_late : (n k : ℕ) → 128 ≤ k → sum ◌+◌ 0 (map most_looks (range k n)) ≡ 128 * n
unfolding sum
bounds_late zero k h = refl
bounds_late (suc n) k h = omega (arith, bounds_late n (suc k) (omega arith))

pub sum_early : (n : ℕ) → n ≤ 128 → 2 * bounds_together n ≡ n * (n + 1)
unfolding sum
sum_early n h =
    let is : ℕ → Bool = λ (m : ℕ). eqb (2 * bounds_together m) (m * (m + 1)) in
    eqb-true (2 * bounds_together n) (n * (n + 1)) (true_of ((every_true is (range 0 129)).0 tt n ((in_range 0 129 n).1 (omega arith, omega arith))))

pub sum_late : (n : ℕ) → bounds_together (128 + n) ≡ 8256 + 128 * n
unfolding sum
sum_late n =
    ap (λ (ks : List ℕ). sum ◌+◌ 0 (map most_looks ks)) (range_append 1 128 n)
    ∙ ap (sum ◌+◌ 0) (map-append most_looks (range 1 128) (range 129 n))
    ∙ sum-append {A = ℕ} ◌+◌ 0 zero-add add_assoc (map most_looks (range 1 128)) (map most_looks (range 129 n))
    ∙ ap (λ (m : ℕ). 8256 + m) (bounds_late n 129 (omega arith))
