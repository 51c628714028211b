-- A span laid on one segment: the row, the cells, the next segment, the columns that were lit.
use mathlib.Core.Path.{◌≡◌, refl, sym, ap, subst, subst⁻¹, ◌∙◌}
use mathlib.Core.Logic.{◌⊎◌, inl, inr, ⊎_elim}
use mathlib.Core.Bool.{Bool, true, false, ◌&&◌}
use mathlib.Core.List.{List, [], ◌∷◌}
use Prim.Native.Nat.{ℕ, suc, ◌+◌, ◌-◌, ◌≤◌, ◌<◌, min, max}
use Rattle.std.specs.Int.{from_bool}
use native.Mathlib.Omega.{arith}
use lib.Dec.{T, leb, ltb, leb→le, le→leb}
use lib.ListN.{length}
use borrow.Author.Tests.{leb-false}
use Rattle.model.specs.Lists.{range, tally}
use Rattle.model.specs.Row.{Segment}
use Rattle.model.proofs.Tests.{same_test, both}
use Rattle.segments.specs.Columns.{in_span, painted, piece, remains_before, remains}
use Rattle.segments.specs.Segments.{in_segment, Placed, segment_at, Reads}
use Rattle.positions.specs.Positions.{Acts}
use Rattle.stepping.specs.Step.{Overlaps, Keeps, Reached, Steps}
use Rattle.segments.proofs.Tests.{same_le, failed, and_failed}
use Rattle.segments.proofs.Segments.{column_bounds, bounds_column}
use Rattle.segments.proofs.Remains.{apart}
use Rattle.segments.proofs.Painting.{painted_congr, painted_none}
use Rattle.segments.proofs.Tallies.{tally_congr, tally_clear, tally_span}
use Rattle.pairs.proofs.Moves.{read_segment}
use Rattle.stepping.proofs.Keeping.{held_segment}

advance : (b : Bool) (s : Segment) → from_bool b ≡ length (piece b s)
advance true s = refl
advance false s = refl

-- the columns that a span and a segment share
shared :
    (first last : ℕ) (s : Segment) (i : ℕ) → 0 < s.count →
    in_span (max first s.offset) (min last (s.offset + (s.count - 1))) i ≡ (in_segment s i && in_span first last i)
shared first last s i h =
    same_test (in_span a b i) (in_segment s i && in_span first last i)
    (λ t.
    let p = (both (leb a i) (leb i b)).0 t in
    let l = leb→le a i p.0 in
    let m = leb→le i b p.1 in
    (both (in_segment s i) (in_span first last i)).1 (
      bounds_column s i (omega arith) (omega arith),
      (both (leb first i) (leb i last)).1 (le→leb first i (omega arith), le→leb i last (omega arith)),
    ))
    (λ t.
    let p = (both (in_segment s i) (in_span first last i)).0 t in
    let q = column_bounds s i p.0 in
    let u = (both (leb first i) (leb i last)).0 p.1 in
    let l = leb→le first i u.0 in
    let m = leb→le i last u.1 in
    (both (leb a i) (leb i b)).1 (le→leb a i (omega arith), le→leb i b (omega arith)))
  where
    a : ℕ
    a = max first s.offset

    b : ℕ
    b = min last (s.offset + (s.count - 1))

-- a span and a segment that share none
none_shared :
    (first last : ℕ) (s : Segment) (i : ℕ) → (s.offset + s.count ≤ first) ⊎ (last < s.offset) →
    (in_segment s i && in_span first last i) ≡ false
none_shared first last s i d =
    failed (in_segment s i && in_span first last i)
    (λ t.
    let p = (both (in_segment s i) (in_span first last i)).0 t in
    let q = column_bounds s i p.0 in
    let u = (both (leb first i) (leb i last)).0 p.1 in
    let l = leb→le first i u.0 in
    let m = leb→le i last u.1 in
    ⊎_elim (λ e. omega arith) (λ e. omega arith) d)

-- the cells with the panel in the columns that the segment and the span share
abbrev over : ℕ → ℕ → ℕ → List ℕ → Segment → List ℕ
over first last panel cells s = painted (λ (i : ℕ). in_segment s i && in_span first last i) panel cells

-- how many columns of a set are below the width and in the span
abbrev pub spanned : ℕ → ℕ → ℕ → (ℕ → Bool) → ℕ
spanned first last width columns = tally (λ (i : ℕ). columns i && in_span first last i) (range 0 width)

module _
    {k first last offset count : ℕ} {row cells : List ℕ} {paint before after next : Bool}
    (reached : Reached k first last row cells) (r : Reads row k offset count)
    (a : Acts first last offset (offset + (count - 1)) paint before after next) where
  abbrev s : Segment
  s = record { offset = offset; count = count }

  placed : Placed (length cells) 0 s
  placed = subst (Placed (length cells) 0) (read_segment r) reached.placed

  pub overlaps : paint ≡ true → Overlaps k first last (segment_at row k) before after
  overlaps e =
      let t : T (leb first (offset + (count - 1)) && leb offset last) = subst T (sym e ∙ a.paint_is) tt in
      let p = (both (leb first (offset + (count - 1))) (leb offset last)).0 t in
      let l = leb→le first (offset + (count - 1)) p.0 in
      let m = leb→le offset last p.1 in
      subst (λ (x : Segment). Overlaps k first last x before after) (sym (read_segment r))
      (record {
        place = reached.place;
        inside = omega (arith, placed.inside, reached.fits);
        starts = omega (arith, placed.filled);
        ends = m;
        before_is = a.before_is;
        after_is =
            a.after_is
            ∙ same_le (suc last) (offset + (count - 1)) (suc (suc last)) (offset + count)
            (λ h. omega (arith, placed.filled)) (λ h. omega (arith, placed.filled));
      })

  -- the columns that the span and the segment share are a run of cells
  pub run_placed :
      {from to : ℕ} → from ≡ max first offset → to ≡ min last (offset + (count - 1)) → paint ≡ true →
      (from ≤ to) × (to < length cells)
  run_placed f t e =
      let q : T (leb first (offset + (count - 1)) && leb offset last) = subst T (sym e ∙ a.paint_is) tt in
      let p = (both (leb first (offset + (count - 1))) (leb offset last)).0 q in
      let l = leb→le first (offset + (count - 1)) p.0 in
      let m = leb→le offset last p.1 in
      (omega (arith, reached.span), omega (arith, placed.inside, placed.filled))

  missed : paint ≡ false → (offset + count ≤ first) ⊎ (last < offset)
  missed e =
      ⊎_elim
      (λ f. inl (let h = leb-false first (offset + (count - 1)) f in omega (arith, placed.filled)))
      (λ f. inr (leb-false offset last f))
      (and_failed (leb first (offset + (count - 1))) (leb offset last) (sym a.paint_is ∙ e))

  module _ {step : ℕ} (m : step ≡ from_bool before) where
    next_segment : k + step ≡ k + length (remains_before first (segment_at row k))
    unfolding remains_before
    next_segment =
        subst (λ (x : Segment). k + step ≡ k + length (remains_before first x)) (sym (read_segment r))
        (ap (k +◌) (m ∙ rw a.before_is (advance (ltb offset first) _)))

    goes : next ≡ leb ((segment_at row k).offset + (segment_at row k).count) last
    goes =
        subst (λ (x : Segment). next ≡ leb (x.offset + x.count) last) (sym (read_segment r))
        (a.next_is
        ∙ same_le (suc (offset + (count - 1))) last (offset + count) last
        (λ h. omega (arith, placed.filled)) (λ h. omega (arith, placed.filled)))

    -- the columns that the segment and the span share were painted
    pub steps_met :
        {panel from to : ℕ} {row' cells' : List ℕ} → from ≡ max first offset → to ≡ min last (offset + (count - 1)) → paint ≡ true →
        cells' ≡ painted (in_span from to) panel cells → Keeps k first last row row' →
        Steps k first last panel row cells row' cells' (k + step) next (to - from + 1)
    steps_met {panel} {from} {to} f t e p kp =
        let run = run_placed f t e in
        let same : (i : ℕ) → in_span from to i ≡ (in_segment s i && in_span first last i) =
        λ i. rw (f, t) (shared first last s i placed.filled) in
        record {
          row_is = kp;
          cells_are =
              p
              ∙ painted_congr (in_span from to) (λ (i : ℕ). in_segment s i && in_span first last i) panel cells (λ i h. same i)
              ∙ ap (over first last panel cells) (sym (read_segment r));
          next_is = next_segment;
          go_is = goes;
          lit_is =
              sym (tally_span from to (length cells) run.0 run.1)
              ∙ tally_congr (in_span from to) (λ (i : ℕ). in_segment s i && in_span first last i) (length cells) (λ i h. same i)
              ∙ ap (λ (x : Segment). spanned first last (length cells) (in_segment x)) (sym (read_segment r));
        }

    -- they share none
    pub steps_missed : {panel : ℕ} → paint ≡ false → Steps k first last panel row cells row cells (k + step) next 0
    steps_missed {panel} e =
        record {
          row_is = record {
            keeps = λ width done t rest held few.
                let q : t ≡ s = sym (held_segment held) ∙ read_segment r in
                let f : remains first last t ≡ t ∷ [] =
                subst⁻¹ (λ (x : Segment). remains first last x ≡ x ∷ []) q
                (apart first last s reached.span placed.filled (missed e)) in
                rw f held.row_is;
          };
          cells_are =
              sym (painted_none _ panel cells (λ i h. none_shared first last s i (missed e)))
              ∙ ap (over first last panel cells) (sym (read_segment r));
          next_is = next_segment;
          go_is = goes;
          lit_is =
              sym (tally_clear _ (length cells) (λ i h. none_shared first last s i (missed e)))
              ∙ ap (λ (x : Segment). spanned first last (length cells) (in_segment x)) (sym (read_segment r));
        }
