-- The segments of a set of columns hold just the set's columns below the width, and depend on nothing else of it.
use mathlib.Core.Path.{◌≡◌, refl, sym, ◌∙◌}
use mathlib.Core.Logic.{◌⊎◌, inl, inr}
use mathlib.Core.Bool.{Bool, true, false, cond, ◌&&◌}
use mathlib.Core.List.{List, [], ◌∷◌, map}
use Prim.Native.Nat.{ℕ, zero, suc, ◌+◌, ◌*◌, ◌-◌, ◌≤◌, ◌<◌}
use native.Mathlib.Omega.{arith}
use lib.Dec.{eqb, ltb}
use lib.ListN.{length, length-map}
use borrow.Author.Tests.{eqb-true, lt-ltb, le-ltb}
use Rattle.model.specs.Lists.{range}
use Rattle.model.specs.Row.{Segment, joined, segments_from, segments}
use Rattle.model.proofs.Tests.{lt_or_ge}
use Rattle.model.proofs.Ranges.{range_length}
use Rattle.segments.specs.Segments.{Ordered, none, more}
use Rattle.segments.proofs.Segments.{member, column_inside, column_after, column_tail, member_before, member_beyond, segments_from_ordered, determined}

ordered_from : (i n width : ℕ) (unlit : ℕ → Bool) → i + n ≤ width → Ordered width i (segments_from i (map unlit (range i n)))
ordered_from i n width unlit h = segments_from_ordered i width (map unlit (range i n)) (rw (length-map, range_length) h)

-- a column that lengthens a segment, or stands alone
module _ (i j : ℕ) (h : i < j) where
  joined_later : (ss : List Segment) → member (joined i ss) j ≡ member ss j
  unfolding joined member
  joined_later [] = rw (column_after (record { offset = i; count = 1 }) j (omega arith))
  joined_later (s ∷ ss) = go (eqb s.offset (suc i)) refl
    where
      go :
          (t : Bool) → eqb s.offset (suc i) ≡ t →
          member (cond t (record { offset = i; count = suc s.count } ∷ ss) (record { offset = i; count = 1 } ∷ s ∷ ss)) j ≡ member (s ∷ ss) j
      go true e =
          let at : s.offset ≡ suc i = eqb-true s.offset (suc i) e in
          rw (column_tail (record { offset = i; count = suc s.count }) s j (omega arith) (omega arith) (omega arith))
      go false e = rw (column_after (record { offset = i; count = 1 }) j (omega arith))

joined_here : (i : ℕ) (ss : List Segment) → member (joined i ss) i ≡ true
unfolding joined member
joined_here i [] = rw (column_inside (record { offset = i; count = 1 }) i (omega arith) (omega arith))
joined_here i (s ∷ ss) = go (eqb s.offset (suc i))
  where
    go :
        (t : Bool) →
        member (cond t (record { offset = i; count = suc s.count } ∷ ss) (record { offset = i; count = 1 } ∷ s ∷ ss)) i ≡ true
    go true = rw (column_inside (record { offset = i; count = suc s.count }) i (omega arith) (omega arith))
    go false = rw (column_inside (record { offset = i; count = 1 }) i (omega arith) (omega arith))

member_from : (n i : ℕ) (unlit : ℕ → Bool) (j : ℕ) → i ≤ j → j < i + n → member (segments_from i (map unlit (range i n))) j ≡ unlit j
unfolding segments_from
member_from zero i unlit j h k = absurd (omega arith)
member_from (suc n) i unlit j h k =
    go (unlit i) refl (lt_or_ge i j) (λ l. member_from n (suc i) unlit j l (omega arith)) (ordered_from (suc i) n (suc i + n) unlit (omega arith))
  where
    rest : List Segment
    rest = segments_from (suc i) (map unlit (range (suc i) n))

    go :
        (t : Bool) → unlit i ≡ t → (i < j) ⊎ (j ≤ i) → (i < j → member rest j ≡ unlit j) →
        Ordered (suc i + n) (suc i) rest → member (segments_from i (t ∷ map unlit (range (suc i) n))) j ≡ unlit j
    go true e (inl l) ih o = joined_later i j l rest ∙ ih l
    go true e (inr l) ih o = let q : j ≡ i = omega arith in rw (q, e) (joined_here i rest)
    go false e (inl l) ih o = ih l
    go false e (inr l) ih o = let q : j ≡ i = omega arith in rw (q, e) (member_before i (omega arith) o)

module _ (width : ℕ) (unlit : ℕ → Bool) where
  pub segments_ordered : Ordered width 0 (segments width unlit)
  unfolding segments
  segments_ordered = ordered_from 0 width width unlit (omega arith)

  pub segments_member : (i : ℕ) → i < width → member (segments width unlit) i ≡ unlit i
  unfolding segments
  segments_member i h = member_from width 0 unlit i (omega arith) (omega arith)

  pub segments_columns : (i : ℕ) → member (segments width unlit) i ≡ (ltb i width && unlit i)
  segments_columns i = go (lt_or_ge i width)
    where
      go : (i < width) ⊎ (width ≤ i) → member (segments width unlit) i ≡ (ltb i width && unlit i)
      go (inl h) = rw (lt-ltb i width h) (segments_member i h)
      go (inr h) = rw (le-ltb i width h) (member_beyond i h segments_ordered)

  pub segments_unique : (ss : List Segment) → Ordered width 0 ss → ((i : ℕ) → i < width → unlit i ≡ member ss i) → segments width unlit ≡ ss
  unfolding segments
  segments_unique ss o agree = determined width 0 width ss unlit (omega arith) o (λ j h k. agree j k)

pub segments_congr : (width : ℕ) (u v : ℕ → Bool) → ((i : ℕ) → i < width → u i ≡ v i) → segments width u ≡ segments width v
segments_congr width u v same =
    segments_unique width u (segments width v) (segments_ordered width v) (λ i h. same i h ∙ sym (segments_member width v i h))

-- each segment takes a column of its own and, but the last, one after it
pub few : {width low : ℕ} {ss : List Segment} → Ordered width low ss → 2 * length ss ≤ suc width - low
few none = omega arith
few (more low s p o) = omega (arith, few o)
