-- The segments that a span leaves.
use mathlib.Core.Path.{◌≡◌, refl, sym, ◌∙◌}
use mathlib.Core.Logic.{◌⊎◌, inl, inr}
use mathlib.Core.Bool.{Bool, true, false, not, ◌&&◌, ◌||◌, and-false, or-false, or-true, or_assoc, and-or_distrib_left, and-or_distrib_right}
use mathlib.Core.List.{List, [], ◌∷◌, ◌++◌, append_assoc}
use Prim.Native.Nat.{ℕ, suc, ◌+◌, ◌-◌, ◌≤◌, ◌<◌, min, max}
use native.Mathlib.Omega.{arith}
use lib.Dec.{T, ltb, ltb→lt, lt→ltb}
use borrow.Author.Tests.{lt-ltb, le-ltb, le-leb, lt-leb}
use Rattle.model.specs.Row.{Segment, segments, after_span}
use Rattle.model.proofs.Tests.{lt_or_ge, same_test, both}
use Rattle.segments.specs.Columns.{in_span, piece, remains_before, remains_after, remains}
use Rattle.segments.specs.Segments.{in_segment, Placed, Ordered, none, more}
use Rattle.segments.proofs.Segments.{lower, member, column_bounds, bounds_column}
use Rattle.segments.proofs.Sets.{segments_ordered, segments_member, segments_unique}

member_append : (ss ts : List Segment) (i : ℕ) → member (ss ++ ts) i ≡ (member ss i || member ts i)
unfolding member
member_append [] ts i = refl
member_append (s ∷ ss) ts i = rw (member_append ss ts i) (sym (or_assoc (in_segment s i) (member ss i) (member ts i)))

-- column i against the span
data Against (first last i : ℕ) : Type 0 where
  ahead : i < first → Against first last i
  covered : first ≤ i → i ≤ last → Against first last i
  behind : first ≤ i → last < i → Against first last i

against : (first last i : ℕ) → Against first last i
against first last i = go (lt_or_ge i first) (lt_or_ge last i)
  where
    go : (i < first) ⊎ (first ≤ i) → (last < i) ⊎ (i ≤ last) → Against first last i
    go (inl a) b = ahead a
    go (inr a) (inl b) = behind a b
    go (inr a) (inr b) = covered a b

pub span_ahead : (first last i : ℕ) → i < first → in_span first last i ≡ false
span_ahead first last i a = rw (lt-leb first i a)

pub span_behind : (first last i : ℕ) → last < i → in_span first last i ≡ false
span_behind first last i a = rw (lt-leb i last a, and-false)

-- an empty span has no column
pub span_empty : (first last : ℕ) → last < first → (i : ℕ) → in_span first last i ≡ false
span_empty first last h i = side (lt_or_ge i first)
  where
    side : (i < first) ⊎ (first ≤ i) → in_span first last i ≡ false
    side (inl l) = span_ahead first last i l
    side (inr l) = span_behind first last i (omega arith)

member_piece : (b : Bool) (s : Segment) (i : ℕ) → member (piece b s) i ≡ (b && in_segment s i)
unfolding member
member_piece true s i = or-false (in_segment s i)
member_piece false s i = refl

member_before_span : (first : ℕ) (s : Segment) (i : ℕ) → member (remains_before first s) i ≡ (in_segment s i && ltb i first)
unfolding remains_before
member_before_span first s i =
    member_piece (ltb s.offset first) p i
    ∙ same_test (ltb s.offset first && in_segment p i) (in_segment s i && ltb i first)
    (λ t.
    let a = (both (ltb s.offset first) (in_segment p i)).0 t in
    let b = column_bounds p i a.1 in
    let c = ltb→lt s.offset first a.0 in
    (both (in_segment s i) (ltb i first)).1 (bounds_column s i (omega arith) (omega arith), lt→ltb i first (omega arith)))
    (λ t.
    let a = (both (in_segment s i) (ltb i first)).0 t in
    let b = column_bounds s i a.0 in
    let c = ltb→lt i first a.1 in
    (both (ltb s.offset first) (in_segment p i)).1 (lt→ltb s.offset first (omega arith), bounds_column p i (omega arith) (omega arith)))
  where
    p : Segment
    p = record { offset = s.offset; count = min (first - s.offset) s.count }

member_after_span : (last : ℕ) (s : Segment) (i : ℕ) → member (remains_after last s) i ≡ (in_segment s i && ltb last i)
unfolding remains_after
member_after_span last s i =
    member_piece (ltb (suc last) (s.offset + s.count)) p i
    ∙ same_test (ltb (suc last) (s.offset + s.count) && in_segment p i) (in_segment s i && ltb last i)
    (λ t.
    let a = (both (ltb (suc last) (s.offset + s.count)) (in_segment p i)).0 t in
    let b = column_bounds p i a.1 in
    let c = ltb→lt (suc last) (s.offset + s.count) a.0 in
    (both (in_segment s i) (ltb last i)).1 (bounds_column s i (omega arith) (omega arith), lt→ltb last i (omega arith)))
    (λ t.
    let a = (both (in_segment s i) (ltb last i)).0 t in
    let b = column_bounds s i a.0 in
    let c = ltb→lt last i a.1 in
    (both (ltb (suc last) (s.offset + s.count)) (in_segment p i)).1 (lt→ltb (suc last) (s.offset + s.count) (omega arith), bounds_column p i (omega arith) (omega arith)))
  where
    p : Segment
    p = record { offset = max s.offset (suc last); count = s.offset + s.count - max s.offset (suc last) }

unfoldable pub cut : ℕ → ℕ → List Segment → List Segment
cut first last [] = []
cut first last (s ∷ ss) = remains first last s ++ cut first last ss

outside : (first last i : ℕ) → not (in_span first last i) ≡ (ltb i first || ltb last i)
outside first last i = go (against first last i)
  where
    go : Against first last i → not (in_span first last i) ≡ (ltb i first || ltb last i)
    go (ahead a) = rw (lt-leb first i a, lt-ltb i first a)
    go (covered a b) = rw (le-leb first i a, le-leb i last b, le-ltb i first a, le-ltb last i b)
    go (behind a b) = rw (lt-leb i last b, and-false, lt-ltb last i b, or-true)

member_remains : (first last : ℕ) (s : Segment) (i : ℕ) → member (remains first last s) i ≡ (in_segment s i && not (in_span first last i))
unfolding remains
member_remains first last s i =
    member_append (remains_before first s) (remains_after last s) i
    ∙ rw (member_before_span first s i, member_after_span last s i, outside first last i)
    (sym (and-or_distrib_left (in_segment s i) (ltb i first) (ltb last i)))

member_cut : (first last : ℕ) (ss : List Segment) (i : ℕ) → member (cut first last ss) i ≡ (member ss i && not (in_span first last i))
unfolding cut member
member_cut first last [] i = refl
member_cut first last (s ∷ ss) i =
    member_append (remains first last s) (cut first last ss) i
    ∙ rw (member_remains first last s i, member_cut first last ss i)
    (sym (and-or_distrib_right (in_segment s i) (member ss i) (not (in_span first last i))))

-- a piece before further segments
piece_ordered :
    {width : ℕ} (low : ℕ) (b : Bool) (s : Segment) {ss : List Segment} (high : ℕ) →
    (T b → Placed width low s × (s.offset + s.count < high)) → low ≤ high → Ordered width high ss →
    Ordered width low (piece b s ++ ss)
piece_ordered low true s high p h o = more low s (p tt).0 (lower (suc (s.offset + s.count)) (p tt).1 o)
piece_ordered low false s high p h o = lower low h o

pub remains_ordered :
    {width : ℕ} (low first last : ℕ) → first ≤ last → (s : Segment) {ss : List Segment} → Placed width low s →
    Ordered width (suc (s.offset + s.count)) ss → Ordered width low (remains first last s ++ ss)
unfolding remains remains_before remains_after
remains_ordered {width} low first last h s {ss} p o =
    let end : ℕ = s.offset + s.count in
    let start : ℕ = max s.offset (suc last) in
    let high : ℕ = min start (suc end) in
    rw append_assoc
    (piece_ordered low (ltb s.offset first) (record { offset = s.offset; count = min (first - s.offset) s.count }) high
    (λ t. let a = ltb→lt s.offset first t in (omega arith, omega arith))
    (omega arith)
    (piece_ordered high (ltb (suc last) end) (record { offset = start; count = end - start }) (suc end)
    (λ t. let a = ltb→lt (suc last) end t in (omega arith, omega arith))
    (omega arith)
    o))

cut_ordered :
    {width low : ℕ} (first last : ℕ) → first ≤ last → {ss : List Segment} → Ordered width low ss →
    Ordered width low (cut first last ss)
unfolding cut
cut_ordered first last h none = none
cut_ordered first last h (more low s p o) = remains_ordered low first last h s p (cut_ordered first last h o)

-- the segments of what a span leaves
pub segments_cut :
    (width : ℕ) (unlit : ℕ → Bool) (first last : ℕ) → first ≤ last →
    segments width (after_span unlit first last) ≡ cut first last (segments width unlit)
segments_cut width unlit first last h =
    segments_unique width (after_span unlit first last) (cut first last (segments width unlit))
    (cut_ordered first last h (segments_ordered width unlit))
    (λ i k. sym (member_cut first last (segments width unlit) i ∙ rw (segments_member width unlit i k)))
