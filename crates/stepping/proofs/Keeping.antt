-- What a span leaves of a segment, case by case, and the row with it.
use mathlib.Core.Path.{◌≡◌, refl, sym, ap, subst, ◌∙◌}
use mathlib.Core.Bool.{Bool, true, false}
use mathlib.Core.List.{List, [], ◌∷◌, ◌++◌}
use Prim.Native.Nat.{ℕ, suc, ◌+◌, ◌*◌, ◌-◌, ◌≤◌, ◌<◌}
use native.Mathlib.Omega.{arith}
use lib.ListN.{length, length-append}
use borrow.Author.Tests.{ltb-true, ltb-false}
use Rattle.model.specs.Row.{Segment, numbers_of}
use Rattle.segments.specs.Segments.{row_from, segment_at, written, Holds, Reads}
use Rattle.segments.specs.Columns.{remains}
use Rattle.pairs.specs.Pairs.{Inserts, Removes}
use Rattle.stepping.specs.Step.{Overlaps, Keeps}
use Rattle.segments.proofs.Segments.{lower, tail_ordered, head_placed}
use Rattle.segments.proofs.Remains.{before_some, before_none, after_some, after_none}
use Rattle.segments.proofs.Numbers.{shaped, shape_row, pair_written}
use Rattle.pairs.proofs.Moves.{read_here, further, read_segment}

module _ {width k : ℕ} {row : List ℕ} {done : List Segment} {s : Segment} {rest : List Segment} (held : Holds width k row done (s ∷ rest)) where
  -- pair k holds the segment
  pub held_segment : segment_at row k ≡ s
  unfolding numbers_of
  held_segment =
      subst (λ (r : List ℕ). segment_at r k ≡ s) (sym (held.row_is ∙ (shaped done (s ∷ rest) held.few).row_is))
      (read_here done s _ k held.place)

  -- another segment in its place
  held_written : (t : Segment) → written row k t ≡ row_from (done ++ t ∷ rest)
  unfolding numbers_of
  held_written t =
      let sh = shaped done (s ∷ rest) held.few in
      ap (λ (r : List ℕ). written r k t) (held.row_is ∙ sh.row_is)
      ∙ pair_written done s.offset s.count _ k t held.place
      ∙ shape_row {passed = done} {rest = t ∷ rest} (record { size = sh.size; row_is = refl })

-- a segment's columns before the span, and those after it
abbrev prior : ℕ → ℕ → Segment
prior first offset = record { offset = offset; count = first - offset }

abbrev later : ℕ → ℕ → ℕ → Segment
later last offset count = record { offset = last + 1; count = offset + count - (last + 1) }

-- the segment of pair k, as it was read
module _
    {k first last offset count : ℕ} {row : List ℕ} {before after : Bool}
    (o : Overlaps k first last (segment_at row k) before after) (r : Reads row k offset count) where
  abbrev s : Segment
  s = record { offset = offset; count = count }

  met : Overlaps k first last s before after
  met = subst (λ (t : Segment). Overlaps k first last t before after) (read_segment r) o

  read_held : {width : ℕ} {done : List Segment} {t : Segment} {rest : List Segment} → Holds width k row done (t ∷ rest) → t ≡ s
  read_held held = sym (held_segment held) ∙ read_segment r

  -- the segments that the span leaves, given as a list
  by_list : (ts : List Segment) (row' : List ℕ) → remains first last s ≡ ts →
      ((width : ℕ) (done rest : List Segment) → Holds width k row done (s ∷ rest) →
      length done + length (ts ++ rest) ≤ 128 → row' ≡ row_from (done ++ (ts ++ rest))) → Keeps k first last row row'
  by_list ts row' e all =
      record {
        keeps = λ width done t rest held few.
            let q : t ≡ s = read_held held in
            let f : remains first last t ≡ ts = ap (remains first last) q ∙ e in
            rw f (all width done rest (rw q at held) (rw f at few));
      }

  pub starts_after : before ≡ true → offset < first
  starts_after b = ltb-true offset first (sym met.before_is ∙ b)

  starts_by : before ≡ false → first ≤ offset
  starts_by b = ltb-false offset first (sym met.before_is ∙ b)

  pub ends_before : after ≡ true → suc last < offset + count
  ends_before a = ltb-true (suc last) (offset + count) (sym met.after_is ∙ a)

  ends_by : after ≡ false → offset + count ≤ suc last
  ends_by a = ltb-false (suc last) (offset + count) (sym met.after_is ∙ a)

  pub keeps_both :
      before ≡ true → after ≡ true → {row₁ row' : List ℕ} {p q : Segment} → p ≡ prior first offset → row₁ ≡ written row k p →
      q ≡ later last offset count → Inserts (k + 1) q row₁ row' → Keeps k first last row row'
  unfolding remains
  keeps_both b a {row₁} {row'} {p} {q} e v f j =
      let w : row₁ ≡ written row k (prior first offset) = v ∙ ap (written row k) e in
      let i : Inserts (k + 1) (later last offset count) row₁ row' = subst (λ (t : Segment). Inserts (k + 1) t row₁ row') f j in
      by_list (prior first offset ∷ later last offset count ∷ []) row'
      (rw (before_some first last s (starts_after b) met.starts, after_some first last s met.ends (ends_before a)))
      (λ width done rest held few.
      let l : length (done ++ prior first offset ∷ []) ≡ length done + 1 = length-append done (prior first offset ∷ []) in
      let p = head_placed held.ordered in
      i.inserts width (done ++ prior first offset ∷ []) rest
      (record {
        place = omega (arith, held.place);
        few = omega arith;
        ordered = lower (2 * (k + 1)) (omega (arith, starts_after b, met.starts)) (tail_ordered held.ordered);
        row_is = w ∙ held_written held (prior first offset) ∙ ap row_from (further done (prior first offset) rest);
      })
      (omega arith)
      ∙ ap row_from (sym (further done (prior first offset) (later last offset count ∷ rest))))

  pub keeps_before :
      before ≡ true → after ≡ false → {row' : List ℕ} {p : Segment} → p ≡ prior first offset → row' ≡ written row k p →
      Keeps k first last row row'
  unfolding remains
  keeps_before b a {row'} e w =
      by_list (prior first offset ∷ []) row'
      (rw (before_some first last s (starts_after b) met.starts, after_none first last s (ends_by a)))
      (λ width done rest held few. w ∙ ap (written row k) e ∙ held_written held (prior first offset))

  pub keeps_after :
      before ≡ false → after ≡ true → {row' : List ℕ} {q : Segment} → q ≡ later last offset count → row' ≡ written row k q →
      Keeps k first last row row'
  unfolding remains
  keeps_after b a {row'} e w =
      by_list (later last offset count ∷ []) row'
      (rw (before_none first last s (starts_by b), after_some first last s met.ends (ends_before a)))
      (λ width done rest held few. w ∙ ap (written row k) e ∙ held_written held (later last offset count))

  pub keeps_none : before ≡ false → after ≡ false → {row' : List ℕ} → Removes k row row' → Keeps k first last row row'
  unfolding remains
  keeps_none b a {row'} w =
      by_list [] row'
      (rw (before_none first last s (starts_by b), after_none first last s (ends_by a)))
      (λ width done rest held few. w.removes width done s rest held)
