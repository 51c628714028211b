-- What is to be done with a segment when a span is laid on it.
use Rattle.std.specs.Prelude.{◌≡◌, Bool, ◌&&◌, ℕ, leb, ltb}

-- For a span from `first` to `last` and a segment of the columns `left` to `right`: whether there are columns to paint, whether the segment has columns
-- before the span and after it, and whether the next segment is to be looked at. Document 01: "Span I to J meets a stretch Min to Max in one of eight
-- positions", and of these "what to paint, keep and do next": "1 J < Min; 8 I > Max; with I ≤ Min: 2 J < Max, 4 J = Max, 6 J > Max; with I > Min: 3 J < Max, 5 J = Max,
-- 7 J > Max. Position 3 splits the stretch." I is `first`, J is `last`, Min is `left` and Max is `right`. By their numbers, for I ≤ J and Min ≤ Max:
-- 1. J < Min: paints nothing; the segment is kept, all of it after the span; stop.
-- 2. I ≤ Min, Min ≤ J < Max: paints; what is after the span is kept; stop.
-- 3. I > Min, J < Max: paints; what is before the span is kept and what is after it, so the segment is split; stop.
-- 4. I ≤ Min, J = Max: paints; nothing is kept; stop.
-- 5. I > Min, J = Max: paints; what is before the span is kept; stop.
-- 6. I ≤ Min, J > Max: paints; nothing is kept; on to the next.
-- 7. Min < I ≤ Max, J > Max: paints; what is before the span is kept; on to the next.
-- 8. I > Max: paints nothing; the segment is kept, all of it before the span; on to the next.
pub record Acts (first last left right : ℕ) (paint before after next : Bool) : Type 0 where
  pub paint_is : paint ≡ (leb first right && leb left last)
  pub before_is : before ≡ ltb left first
  pub after_is : after ≡ ltb last right
  pub next_is : next ≡ ltb right last
