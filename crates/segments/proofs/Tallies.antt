-- Tallies: tests that never pass together, and the columns of a row that pass a test.
use mathlib.Core.Path.{◌≡◌, refl}
use mathlib.Core.Logic.{◌⊎◌, inl, inr}
use mathlib.Core.Bool.{Bool, true, false, true≢false, ◌&&◌, ◌||◌}
use mathlib.Core.List.{List, [], ◌∷◌}
use Prim.Native.Nat.{ℕ, zero, suc, ◌+◌, ◌-◌, ◌≤◌, ◌<◌, min, max}
use native.Mathlib.Nat.{zero-add}
use native.Mathlib.Omega.{arith}
use borrow.Author.Tests.{le-leb}
use Rattle.model.specs.Lists.{range, add_if, tally}
use Rattle.model.proofs.Tests.{lt_or_ge, tally_none}
use Rattle.model.proofs.Ranges.{range_length, in_range}
use Rattle.model.proofs.Totals.{tally_most as list-most}
use Rattle.model.proofs.LitMap.{tally_same}
use Rattle.segments.specs.Columns.{in_span}
use Rattle.segments.proofs.Cut.{span_ahead, span_behind}

-- two tests that never pass together add up
pub tally_or :
    {A : Type 0} (u v : A → Bool) (l : List A) → ((a : A) → (u a && v a) ≡ false) →
    tally (λ (a : A). u a || v a) l ≡ tally u l + tally v l
tally_or u v [] apart = refl
tally_or u v (a ∷ l) apart = step (u a) (v a) (tally u l) (tally v l) (apart a) (tally_or u v l apart)
  where
    step : (b c : Bool) (m n : ℕ) {k : ℕ} → (b && c) ≡ false → k ≡ m + n → add_if (b || c) k ≡ add_if b m + add_if c n
    step true true m n e h = absurd (true≢false e)
    step true false m n e h = omega arith
    step false true m n e h = omega arith
    step false false m n e h = h

-- ---- the columns of a set that are below the width

-- they are no more than the width
pub tally_most : (columns : ℕ → Bool) (width : ℕ) → tally columns (range 0 width) ≤ width
tally_most columns width = omega (arith, list-most columns (range 0 width), range_length 0 width)

-- they depend on nothing else of the set
pub tally_congr : (u v : ℕ → Bool) (width : ℕ) → ((i : ℕ) → i < width → u i ≡ v i) → tally u (range 0 width) ≡ tally v (range 0 width)
tally_congr u v width same = tally_same u v 0 0 width (λ i h. rw zero-add (same i h))

pub tally_clear : (u : ℕ → Bool) (width : ℕ) → ((i : ℕ) → i < width → u i ≡ false) → tally u (range 0 width) ≡ 0
tally_clear u width clear =
    (tally_none u (range 0 width)).1
    (λ i m t. let h : i < width = omega (arith, ((in_range 0 width i).0 m).1) in rw (clear i h) at t)

-- those of a span, from column i on, and all of them
from_span : (first last i n : ℕ) → tally (in_span first last) (range i n) ≡ min (suc last) (i + n) - max first i
from_span first last i zero = omega arith
from_span first last i (suc n) = go (lt_or_ge i first) (lt_or_ge last i) (from_span first last (suc i) n)
  where
    go :
        (i < first) ⊎ (first ≤ i) → (last < i) ⊎ (i ≤ last) →
        tally (in_span first last) (range (suc i) n) ≡ min (suc last) (suc i + n) - max first (suc i) →
        tally (in_span first last) (range i (suc n)) ≡ min (suc last) (i + suc n) - max first i
    go (inl a) b e = rw (span_ahead first last i a) (omega arith)
    go (inr a) (inl b) e = rw (span_behind first last i b) (omega arith)
    go (inr a) (inr b) e = rw (le-leb first i a, le-leb i last b) (omega arith)

pub tally_span : (first last width : ℕ) → first ≤ last → last < width → tally (in_span first last) (range 0 width) ≡ last - first + 1
tally_span first last width h l = omega (arith, from_span first last 0 width)
