-- Columns 1, 3, 5 and so on leave a comb of single columns and the rest of the row: each next one cuts off one more single column, and looks at all of them.
use mathlib.Core.Path.{◌≡◌, refl, ap, ◌∙◌}
use mathlib.Core.Logic.{◌⊎◌, inl, inr}
use mathlib.Core.Bool.{Bool, true, false}
use mathlib.Core.List.{List, [], ◌∷◌, ◌++◌, append-nil}
use Prim.Native.Nat.{ℕ, zero, suc, ◌+◌, ◌*◌, ◌-◌, ◌≤◌, ◌<◌}
use native.Mathlib.Omega.{arith}
use lib.Dec.{ltb}
use borrow.Author.Tests.{lt-ltb, le-ltb}
use Rattle.model.specs.Row.{Segment}
use Rattle.segments.specs.Columns.{remains_before, remains_after, remains}
use Rattle.segments.specs.Looks.{looked_at}
use Rattle.model.proofs.Tests.{lt_or_ge}
use Rattle.segments.proofs.Cut.{cut}
use Rattle.segments.proofs.Remains.{one, before_some, after_some, after_none, apart}

-- one column, and the rest of a row of 256 columns from column o on
abbrev single : ℕ → Segment
single o = record { offset = o; count = 1 }

abbrev rest : ℕ → Segment
rest o = record { offset = o; count = 256 - o }

rests : ℕ → Bool → List Segment
rests o true = rest o ∷ []
rests o false = []

-- t single columns, every other one from o on, and the rest of the row, if there is one
unfoldable pub comb : ℕ → ℕ → List Segment
unfolding rests
comb o zero = rests o (ltb o 256)
comb o (suc t) = single o ∷ comb (o + 2) t

pub comb_rest : (o : ℕ) → o < 256 → comb o 0 ≡ rest o ∷ []
unfolding comb rests
comb_rest o h = rw (lt-ltb o 256 h)

comb_end : (o : ℕ) → 256 ≤ o → comb o 0 ≡ []
unfolding comb rests
comb_end o h = rw (le-ltb o 256 h)

-- ---- what a span leaves of the comb

-- the second column of the rest: the first becomes a single one
rest_cut : (o : ℕ) → o < 255 → remains (o + 1) (o + 1) (rest o) ≡ single o ∷ comb (o + 2) 0
unfolding remains
rest_cut o h = go (lt_or_ge (o + 2) 256)
  where
    b : remains_before (o + 1) (rest o) ≡ single o ∷ []
    b = before_some (o + 1) (o + 1) (rest o) (omega arith) (omega arith) ∙ one refl (omega arith)

    go : (o + 2 < 256) ⊎ (256 ≤ o + 2) → remains_before (o + 1) (rest o) ++ remains_after (o + 1) (rest o) ≡ single o ∷ comb (o + 2) 0
    go (inl l) =
        let a : remains_after (o + 1) (rest o) ≡ rest (o + 2) ∷ [] =
        after_some (o + 1) (o + 1) (rest o) (omega arith) (omega arith) ∙ one (omega arith) (omega arith) in
        rw (b, a, comb_rest (o + 2) l)
    go (inr l) = rw (b, after_none (o + 1) (o + 1) (rest o) (omega arith), comb_end (o + 2) l)

pub comb_grows : (t o c : ℕ) → c ≡ o + 2 * t + 1 → c ≤ 255 → cut c c (comb o t) ≡ comb o (suc t)
unfolding cut comb
comb_grows zero o c e h =
    let k : c ≡ o + 1 = omega arith in
    rw (comb_rest o (omega arith), k, append-nil) (rest_cut o (omega arith))
comb_grows (suc t) o c e h =
    rw (apart c c (single o) (omega arith) (omega arith) (inl (omega arith)))
    (ap (λ (ss : List Segment). single o ∷ ss) (comb_grows t (o + 2) c (omega arith) h))

-- the whole comb has no rest, and the column after its last one changes nothing
pub comb_stays : (t o : ℕ) → o + 2 * t ≡ 256 → cut 255 255 (comb o t) ≡ comb o t
unfolding cut comb
comb_stays zero o e = rw (comb_end o (omega arith))
comb_stays (suc t) o e =
    rw (apart 255 255 (single o) (omega arith) (omega arith) (inl (omega arith)))
    (ap (λ (ss : List Segment). single o ∷ ss) (comb_stays t (o + 2) (omega arith)))

-- ---- what a span looks at in it

-- the single columns and the rest
pub looked_growing : (t o c : ℕ) → c ≡ o + 2 * t + 1 → c ≤ 255 → looked_at c (comb o t) ≡ suc t
unfolding looked_at comb
looked_growing zero o c e h = rw (comb_rest o (omega arith), lt-ltb c (o + (256 - o)) (omega arith))
looked_growing (suc t) o c e h = rw (le-ltb c (o + 1) (omega arith)) (ap suc (looked_growing t (o + 2) c (omega arith) h))

-- all of the whole comb: none ends at or after the last column
pub looked_whole : (t o : ℕ) → o + 2 * t ≡ 256 → looked_at 255 (comb o t) ≡ t
unfolding looked_at comb
looked_whole zero o e = rw (comb_end o (omega arith))
looked_whole (suc t) o e = rw (le-ltb 255 (o + 1) (omega arith)) (ap suc (looked_whole t (o + 2) (omega arith)))
