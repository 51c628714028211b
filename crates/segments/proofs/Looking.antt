-- How many segments laying a span looks at: never more than there are, and a span adds at most one.
use mathlib.Core.Path.{◌≡◌, refl, ap}
use mathlib.Core.Logic.{◌⊎◌, inl, inr}
use mathlib.Core.Bool.{Bool, true, false, and-true}
use mathlib.Core.List.{List, [], ◌∷◌, ◌++◌, map, sum}
use Prim.Native.Nat.{ℕ, zero, suc, ◌+◌, ◌≤◌, ◌<◌}
use native.Mathlib.Omega.{arith}
use lib.Dec.{leb}
use lib.ListN.{length, length-append}
use Rattle.model.specs.Lists.{range}
use Rattle.model.specs.Row.{Segment, segments, after_span}
use Rattle.model.proofs.Tests.{lt_or_ge}
use Rattle.segments.specs.Columns.{remains_before, remains}
use Rattle.segments.specs.Segments.{Ordered, none, more}
use Rattle.segments.specs.Looks.{Columns, ends_from, looked_at, looks, fresh, after_spans, looks_in_order, most_looks}
use Rattle.segments.proofs.Sets.{segments_ordered, segments_congr, segments_unique}
use Rattle.segments.proofs.Rows.{segments_few}
use Rattle.segments.proofs.Cut.{cut, span_empty, segments_cut}
use Rattle.segments.proofs.Remains.{after_none, one_before, two_remain, cut_rest}
use Rattle.segments.proofs.Full.{all_columns}

looked_few : (last : ℕ) (ss : List Segment) → looked_at last ss ≤ length ss
unfolding looked_at
looked_few last [] = omega arith
looked_few last (s ∷ ss) = go (ends_from last s) refl (looked_few last ss)
  where
    go : (b : Bool) → ends_from last s ≡ b → looked_at last ss ≤ length ss → looked_at last (s ∷ ss) ≤ suc (length ss)
    go true e h = rw e (omega arith)
    go false e h = rw e (omega arith)

looks_few : (width : ℕ) (unlit : ℕ → Bool) (c : Columns) → looks width unlit c ≤ length (segments width unlit)
unfolding looks
looks_few width unlit c = go (leb c.first c.last) refl
  where
    go : (b : Bool) → leb c.first c.last ≡ b → looks width unlit c ≤ length (segments width unlit)
    go true e = rw e (looked_few _ (segments width unlit))
    go false e = rw e (omega arith)

-- a span adds at most one segment: each one before its end keeps at most one piece, the one at its end at most two, those after it stay
cut_grows : {width low : ℕ} (first last : ℕ) {ss : List Segment} → first ≤ last → Ordered width low ss → length (cut first last ss) ≤ suc (length ss)
unfolding cut remains
cut_grows first last h none = omega arith
cut_grows first last h (more low s {ss = ss} p o) = go (lt_or_ge last (s.offset + s.count)) (cut_grows first last h o)
  where
    go : (last < s.offset + s.count) ⊎ (s.offset + s.count ≤ last) → length (cut first last ss) ≤ suc (length ss)
        → length (remains first last s ++ cut first last ss) ≤ suc (suc (length ss))
    go (inl l) ih =
        rw (cut_rest first last h (omega arith) o) (omega (arith, length-append (remains first last s) ss, two_remain first last s))
    go (inr l) ih =
        let e : remains first last s ≡ remains_before first s ++ [] = rw (after_none first last s (omega arith)) in
        omega (
          arith,
          length-append (remains first last s) (cut first last ss),
          ap length e,
          length-append (remains_before first s) [],
          one_before first s,
        )

-- the same of a set of columns, also where the span has none
span_grows : (width : ℕ) (unlit : ℕ → Bool) (first last : ℕ) → length (segments width (after_span unlit first last)) ≤ suc (length (segments width unlit))
span_grows width unlit first last = go (lt_or_ge last first)
  where
    go : (last < first) ⊎ (first ≤ last) → length (segments width (after_span unlit first last)) ≤ suc (length (segments width unlit))
    go (inl l) =
        rw (segments_congr width (after_span unlit first last) unlit (λ i h. rw (span_empty first last l i) (and-true (unlit i)))) (omega arith)
    go (inr l) = rw (segments_cut width unlit first last l) (cut_grows first last l (segments_ordered width unlit))

-- after some spans there are at most as many more as there were spans
spans_grow : (width : ℕ) (cs : List Columns) (unlit : ℕ → Bool) → length (segments width (after_spans unlit cs)) ≤ length (segments width unlit) + length cs
unfolding after_spans
spans_grow width [] unlit = omega arith
spans_grow width (c ∷ cs) unlit =
    omega (arith, spans_grow width cs (after_span unlit c.first c.last), span_grows width unlit c.first c.last)

pub fresh_one : (width : ℕ) → length (segments width fresh) ≤ 1
fresh_one zero = omega (arith, ap length (segments_unique 0 fresh [] none (λ i h. absurd (omega arith))))
fresh_one (suc n) = omega (arith, ap length (all_columns n))

-- "The k-th span of a fresh row looks at no more than the smaller of k and 128": whatever the k − 1 spans before it were
pub looks_bounded :
    (width : ℕ) → width ≤ 256 → (before : List Columns) (c : Columns) →
    looks width (after_spans fresh before) c ≤ most_looks (suc (length before))
looks_bounded width fits before c =
    omega (
      arith,
      looks_few width (after_spans fresh before) c,
      spans_grow width before fresh,
      fresh_one width,
      segments_few width fits (after_spans fresh before),
    )

-- Laid one after the other on a row of at most m + 1 segments, spans look at no more, together, than a fresh row's spans may from number m + 1 on.
pub together_bounded :
    (width : ℕ) → width ≤ 256 → (cs : List Columns) (m : ℕ) (unlit : ℕ → Bool) → length (segments width unlit) ≤ suc m →
    sum ◌+◌ 0 (looks_in_order width unlit cs) ≤ sum ◌+◌ 0 (map most_looks (range (suc m) (length cs)))
unfolding looks_in_order sum
together_bounded width fits [] m unlit h = omega arith
together_bounded width fits (c ∷ cs) m unlit h =
    let next = after_span unlit c.first c.last in
    omega (
      arith,
      looks_few width unlit c,
      segments_few width fits unlit,
      together_bounded width fits cs (suc m) next (omega (arith, span_grows width unlit c.first c.last)),
    )

-- ---- one span more

pub after_next :
    (cs : List Columns) (c : Columns) (unlit : ℕ → Bool) →
    after_spans unlit (cs ++ c ∷ []) ≡ after_span (after_spans unlit cs) c.first c.last
unfolding after_spans
after_next [] c unlit = refl
after_next (d ∷ cs) c unlit = after_next cs c (after_span unlit d.first d.last)

pub looks_next :
    (width : ℕ) (cs : List Columns) (c : Columns) (unlit : ℕ → Bool) →
    looks_in_order width unlit (cs ++ c ∷ []) ≡ looks_in_order width unlit cs ++ looks width (after_spans unlit cs) c ∷ []
unfolding after_spans looks_in_order
looks_next width [] c unlit = refl
looks_next width (d ∷ cs) c unlit = ap (◌∷◌ (looks width unlit d)) (looks_next width cs c (after_span unlit d.first d.last))
