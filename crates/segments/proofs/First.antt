-- What a row's first two pairs say of its unlit columns.
use mathlib.Core.Path.{◌≡◌, sym, ◌∙◌}
use mathlib.Core.Logic.{◌⊎◌, inl, inr}
use mathlib.Core.Bool.{Bool, true, true≢false, false≢true}
use mathlib.Core.List.{List, [], ◌∷◌, ◌++◌}
use Prim.Native.Nat.{ℕ, zero, suc, ◌+◌, ◌*◌, ◌-◌, ◌≤◌, ◌<◌}
use native.Mathlib.Omega.{arith}
use lib.ListN.{length, get_or}
use Rattle.model.specs.Row.{Segment, segments, numbers_of, row_of}
use Rattle.model.proofs.Tests.{lt_or_ge}
use Rattle.segments.specs.Segments.{Ordered, more}
use Rattle.segments.proofs.Segments.{member, column_after, member_before}
use Rattle.segments.proofs.Sets.{segments_ordered, segments_member}
use Rattle.segments.proofs.Rows.{zeros, row_parts}

module _ (width : ℕ) (fits : width ≤ 256) (unlit : ℕ → Bool) where
  abbrev left : ℕ
  left = 256 - 2 * length (segments width unlit)

  -- the first pair's columns are below the width
  pub first_inside : get_or (row_of width unlit) 0 0 + get_or (row_of width unlit) 1 0 ≤ width
  unfolding numbers_of
  first_inside = rw (row_parts width fits unlit) (go (segments width unlit) left (segments_ordered width unlit))
    where
      go : (ss : List Segment) (n : ℕ) → Ordered width 0 ss → get_or (numbers_of ss ++ zeros n) 0 0 + get_or (numbers_of ss ++ zeros n) 1 0 ≤ width
      go [] zero o = omega arith
      go [] (suc zero) o = omega arith
      go [] (suc (suc n)) o = omega arith
      go (s ∷ ss) n (more _ _ p o) = omega arith

  module _ (i : ℕ) (below : i < width) (here : unlit i ≡ true) where
    in_segments : member (segments width unlit) i ≡ true
    in_segments = segments_member width unlit i below ∙ here

    -- no unlit column is before the first pair's
    pub first_unlit_lem : get_or (row_of width unlit) 0 0 ≤ i
    unfolding numbers_of member
    first_unlit_lem = rw (row_parts width fits unlit) (go (segments width unlit) left (segments_ordered width unlit) in_segments)
      where
        go : (ss : List Segment) (n : ℕ) → Ordered width 0 ss → member ss i ≡ true → get_or (numbers_of ss ++ zeros n) 0 0 ≤ i
        go [] n o m = absurd (false≢true m)
        go (s ∷ ss) n (more _ _ p o) m = side (lt_or_ge i s.offset)
          where
            side : (i < s.offset) ⊎ (s.offset ≤ i) → s.offset ≤ i
            side (inl l) = absurd (true≢false (sym m ∙ member_before i l (more s.offset s (omega arith) o)))
            side (inr l) = l

    -- and none is after them where the second pair is not used
    pub only_unlit : get_or (row_of width unlit) 3 0 ≡ 0 → i < get_or (row_of width unlit) 0 0 + get_or (row_of width unlit) 1 0
    unfolding numbers_of member
    only_unlit = rw (row_parts width fits unlit) (go (segments width unlit) left (segments_ordered width unlit) in_segments)
      where
        go :
            (ss : List Segment) (n : ℕ) → Ordered width 0 ss → member ss i ≡ true → get_or (numbers_of ss ++ zeros n) 3 0 ≡ 0 →
            i < get_or (numbers_of ss ++ zeros n) 0 0 + get_or (numbers_of ss ++ zeros n) 1 0
        go [] n o m e = absurd (false≢true m)
        go (s ∷ []) n o m e = side (lt_or_ge i (s.offset + s.count))
          where
            side : (i < s.offset + s.count) ⊎ (s.offset + s.count ≤ i) → i < s.offset + s.count
            side (inl l) = l
            side (inr l) = absurd (true≢false (sym m ∙ rw (column_after s i l)))
        go (s ∷ t ∷ ss) n (more _ _ p (more _ _ q o)) m e = absurd (omega arith)

    -- none is between the first pair's and the second's
    pub between_unlit : (i < get_or (row_of width unlit) 0 0 + get_or (row_of width unlit) 1 0) ⊎ (get_or (row_of width unlit) 2 0 ≤ i)
    unfolding numbers_of member
    between_unlit = rw (row_parts width fits unlit) (go (segments width unlit) left (segments_ordered width unlit) in_segments)
      where
        go :
            (ss : List Segment) (n : ℕ) → Ordered width 0 ss → member ss i ≡ true →
            (i < get_or (numbers_of ss ++ zeros n) 0 0 + get_or (numbers_of ss ++ zeros n) 1 0) ⊎ (get_or (numbers_of ss ++ zeros n) 2 0 ≤ i)
        go [] n o m = absurd (false≢true m)
        go (s ∷ []) zero o m = inr (omega arith)
        go (s ∷ []) (suc n) o m = inr (omega arith)
        go (s ∷ t ∷ ss) n (more _ _ p (more _ _ q o)) m = side (lt_or_ge i (s.offset + s.count)) (lt_or_ge i t.offset)
          where
            side :
                (i < s.offset + s.count) ⊎ (s.offset + s.count ≤ i) → (i < t.offset) ⊎ (t.offset ≤ i) →
                (i < s.offset + s.count) ⊎ (t.offset ≤ i)
            side (inl l) b = inl l
            side (inr l) (inl k) = absurd (true≢false (sym m ∙ rw (column_after s i l) (member_before i k (more t.offset t (omega arith) o))))
            side (inr l) (inr k) = inr k
