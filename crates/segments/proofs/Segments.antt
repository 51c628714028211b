-- Lists of segments: in order, not empty, not touching; and the columns that they hold.
use mathlib.Core.Path.{◌≡◌, refl, sym, ap, ◌∙◌}
use mathlib.Core.Bool.{Bool, true, false, cond, ◌||◌, and-false}
use mathlib.Core.Logic.{◌⊎◌, inl, inr}
use mathlib.Core.List.{List, [], ◌∷◌, map}
use Prim.Native.Nat.{ℕ, zero, suc, pred, ◌+◌, ◌≤◌, ◌<◌}
use native.Mathlib.Omega.{arith}
use lib.Dec.{T, eqb, leb, ltb, leb→le, ltb→lt, le→leb, lt→ltb}
use lib.ListN.{length}
use borrow.Author.Tests.{eqb-true, eqb-false, eq-eqb, ne_eqb, le-leb, lt-leb, lt-ltb, le-ltb}
use Rattle.model.specs.Lists.{range}
use Rattle.model.specs.Row.{Segment, joined, segments_from}
use Rattle.model.proofs.Tests.{lt_or_ge, both}
use Rattle.segments.specs.Segments.{in_segment, Placed, Ordered, none, more}

pub lower : {width low : ℕ} (low' : ℕ) {ss : List Segment} → low' ≤ low → Ordered width low ss → Ordered width low' ss
lower low' h none = none
lower low' h (more low s p o) = more low' s (omega arith) o

pub tail_ordered :
    {width low : ℕ} {s : Segment} {ss : List Segment} → Ordered width low (s ∷ ss) →
    Ordered width (suc (s.offset + s.count)) ss
tail_ordered (more low s p o) = o

pub head_placed : {width low : ℕ} {s : Segment} {ss : List Segment} → Ordered width low (s ∷ ss) → Placed width low s
head_placed (more low s p o) = p

joined_ordered : {width : ℕ} (i : ℕ) (ss : List Segment) → i < width → Ordered width (suc i) ss → Ordered width i (joined i ss)
unfolding joined
joined_ordered i [] h o = more i (record { offset = i; count = 1 }) (omega arith) none
joined_ordered {width} i (s ∷ ss) h (more _ _ p o) = go (eqb s.offset (suc i)) refl
  where
    go :
        (t : Bool) → eqb s.offset (suc i) ≡ t →
        Ordered width i (cond t (record { offset = i; count = suc s.count } ∷ ss) (record { offset = i; count = 1 } ∷ s ∷ ss))
    go true e =
        let q : s.offset + s.count ≡ i + suc s.count = omega (arith, eqb-true s.offset (suc i) e) in
        more i (record { offset = i; count = suc s.count }) (omega arith) (rw q at o)
    go false e =
        let q : s.offset ≡ suc i → ⊥ = eqb-false s.offset (suc i) e in
        more i (record { offset = i; count = 1 }) (omega arith) (more (suc (i + 1)) s (omega arith) o)

pub segments_from_ordered : (i width : ℕ) (us : List Bool) → i + length us ≤ width → Ordered width i (segments_from i us)
unfolding segments_from
segments_from_ordered i width [] h = none
segments_from_ordered i width (true ∷ us) h = joined_ordered i (segments_from (suc i) us) (omega arith) (segments_from_ordered (suc i) width us (omega arith))
segments_from_ordered i width (false ∷ us) h = lower i (omega arith) (segments_from_ordered (suc i) width us (omega arith))

-- column i lies in one of the segments
unfoldable pub member : List Segment → ℕ → Bool
member [] i = false
member (s ∷ ss) i = in_segment s i || member ss i

pub column_inside : (s : Segment) (i : ℕ) → s.offset ≤ i → i < s.offset + s.count → in_segment s i ≡ true
unfolding in_segment
column_inside s i a b = rw (le-leb s.offset i a, lt-ltb i (s.offset + s.count) b)

column_before : (s : Segment) (i : ℕ) → i < s.offset → in_segment s i ≡ false
unfolding in_segment
column_before s i a = rw (lt-leb s.offset i a)

pub column_after : (s : Segment) (i : ℕ) → s.offset + s.count ≤ i → in_segment s i ≡ false
unfolding in_segment
column_after s i a = rw (le-ltb i (s.offset + s.count) a, and-false)

pub column_tail :
    (s t : Segment) (i : ℕ) → s.offset ≤ i → t.offset ≤ i → s.offset + s.count ≡ t.offset + t.count →
    in_segment s i ≡ in_segment t i
unfolding in_segment
column_tail s t i a b e = rw (le-leb s.offset i a, le-leb t.offset i b, e)

pub column_bounds : (s : Segment) (i : ℕ) → T (in_segment s i) → (s.offset ≤ i) × (i < s.offset + s.count)
unfolding in_segment
column_bounds s i t =
    let b : T (leb s.offset i) × T (ltb i (s.offset + s.count)) = (both (leb s.offset i) (ltb i (s.offset + s.count))).0 t in
    (leb→le s.offset i b.0, ltb→lt i (s.offset + s.count) b.1)

pub bounds_column : (s : Segment) (i : ℕ) → s.offset ≤ i → i < s.offset + s.count → T (in_segment s i)
unfolding in_segment
bounds_column s i a b = (both (leb s.offset i) (ltb i (s.offset + s.count))).1 (le→leb s.offset i a, lt→ltb i (s.offset + s.count) b)

-- no column below the segments is in one
pub member_before : {width low : ℕ} {ss : List Segment} (i : ℕ) → i < low → Ordered width low ss → member ss i ≡ false
unfolding member
member_before i h none = refl
member_before i h (more low s p o) = rw (column_before s i (omega arith), member_before i (omega arith) o)

-- and none from the width on
pub member_beyond : {width low : ℕ} {ss : List Segment} (i : ℕ) → width ≤ i → Ordered width low ss → member ss i ≡ false
unfolding member
member_beyond i h none = refl
member_beyond i h (more low s p o) = rw (column_after s i (omega arith), member_beyond i h o)

-- A set of columns has one list of segments: a list in order whose columns are the set's is the set's.
abbrev Agree : (ℕ → Bool) → List Segment → ℕ → ℕ → Type 0
Agree unlit ss i end = (j : ℕ) → i ≤ j → j < end → unlit j ≡ member ss j

pub segment_path : {s t : Segment} → s.offset ≡ t.offset → s.count ≡ t.count → s ≡ t
segment_path p q = λ i. record { offset = p i; count = q i }

joined_apart :
    {width : ℕ} (i : ℕ) (ss : List Segment) → Ordered width (suc (suc i)) ss →
    joined i ss ≡ record { offset = i; count = 1 } ∷ ss
unfolding joined
joined_apart i [] o = refl
joined_apart i (s ∷ ss) (more _ _ p o) = rw (ne_eqb s.offset (suc i) (λ e. omega arith))

joined_touching :
    (i n : ℕ) (ss : List Segment) →
    joined i (record { offset = suc i; count = n } ∷ ss) ≡ record { offset = i; count = suc n } ∷ ss
unfolding joined
joined_touching i n ss = rw (eq-eqb (suc i) (suc i) refl)

module _ (i n end : ℕ) (unlit : ℕ → Bool) where
  rest : List Segment
  rest = segments_from (suc i) (map unlit (range (suc i) n))

  -- the columns after i, by induction
  Rest : Type 0
  Rest = (ss : List Segment) → Ordered end (suc i) ss → Agree unlit ss (suc i) end → rest ≡ ss

  lit : unlit i ≡ false → segments_from i (map unlit (range i (suc n))) ≡ rest
  unfolding segments_from rest
  lit e = rw e

  unlit_here : unlit i ≡ true → segments_from i (map unlit (range i (suc n))) ≡ joined i rest
  unfolding segments_from rest
  unlit_here e = rw e

  -- the first segment begins at i
  first_here :
      Rest → (s : Segment) (ss : List Segment) → i ≡ s.offset → (c : ℕ) → s.count ≡ suc c → Placed end i s →
      Ordered end (suc (s.offset + s.count)) ss → Agree unlit (s ∷ ss) i end → joined i rest ≡ s ∷ ss
  unfolding Rest member
  first_here ih s ss at zero e p o agree =
      let after : Ordered end (suc (suc i)) ss = lower (suc (suc i)) (omega arith) o in
      rw (ih ss (lower (suc i) (omega arith) after) (λ j h k. agree j (omega arith) k ∙ rw (column_after s j (omega arith))))
      (joined_apart i ss after ∙ ap (λ (t : Segment). t ∷ ss) (segment_path at (sym e)))
  first_here ih s ss at (suc c) e p o agree =
      let t : Segment = record { offset = suc i; count = suc c } in
      let same : s.offset + s.count ≡ suc i + suc c = omega arith in
      rw (ih (t ∷ ss) (more (suc i) t (omega arith) (rw same at o)) (λ j h k. agree j (omega arith) k ∙ rw (column_tail s t j (omega arith) h same)))
      (joined_touching i (suc c) ss ∙ ap (λ (x : Segment). x ∷ ss) (segment_path at (sym e)))

  step : Rest → (ss : List Segment) → Ordered end i ss → Agree unlit ss i end → i < end → segments_from i (map unlit (range i (suc n))) ≡ ss
  unfolding Rest member
  step ih [] o agree h = lit (agree i (omega arith) h) ∙ ih [] none (λ j h k. agree j (omega arith) k)
  step ih (s ∷ ss) (more _ _ p o) agree h = go (lt_or_ge i s.offset)
    where
      go : (i < s.offset) ⊎ (s.offset ≤ i) → segments_from i (map unlit (range i (suc n))) ≡ s ∷ ss
      go (inl before) =
          lit (agree i (omega arith) h ∙ member_before i before (more s.offset s (omega arith) o))
          ∙ ih (s ∷ ss) (more (suc i) s (omega arith) o) (λ j h k. agree j (omega arith) k)
      go (inr from) =
          let at : i ≡ s.offset = omega arith in
          let c : ℕ = pred s.count in
          unlit_here (agree i (omega arith) h ∙ rw (column_inside s i (omega arith) (omega arith)))
          ∙ first_here ih s ss at c (omega arith) p o agree

pub determined :
    (n i end : ℕ) (ss : List Segment) (unlit : ℕ → Bool) → i + n ≡ end → Ordered end i ss → Agree unlit ss i end →
    segments_from i (map unlit (range i n)) ≡ ss
unfolding segments_from Rest rest
determined zero i end [] unlit h o agree = refl
determined zero i end (s ∷ ss) unlit h (more _ _ p o) agree = absurd (omega arith)
determined (suc n) i end ss unlit h o agree =
    step i n end unlit (λ ss' o' agree'. determined n (suc i) end ss' unlit (omega arith) o' agree') ss o agree (omega arith)
