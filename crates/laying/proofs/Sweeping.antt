-- The loop that lays a span on one segment after the other.
use mathlib.Core.Path.{◌≡◌, refl, sym, ap, subst, ◌∙◌}
use mathlib.Core.Logic.{◌⊎◌, inl, inr}
use mathlib.Core.Bool.{Bool, true, false, ◌&&◌, ◌||◌, and-false, and-or_distrib_right}
use mathlib.Core.List.{List, [], ◌∷◌, ◌++◌, append_assoc, append-nil}
use Prim.Native.Nat.{ℕ, suc, ◌+◌, ◌*◌, ◌-◌, ◌≤◌, ◌<◌}
use native.Mathlib.Nat.{zero-add}
use native.Mathlib.Omega.{arith}
use lib.Dec.{leb}
use lib.ListN.{length, length-append}
use borrow.Author.Tests.{leb-true, leb-false, lt-ltb, le-ltb}
use Rattle.model.specs.Lists.{range}
use Rattle.model.specs.Row.{Segment, numbers_of, segments, row_of, after_span}
use Rattle.segments.specs.Columns.{in_span, painted, remains_before, remains}
use Rattle.laying.specs.Laid.{Row, Lays}
use Rattle.segments.specs.Segments.{in_segment, Placed, Ordered, row_from, segment_at, Holds}
use Rattle.segments.specs.Looks.{looked_at}
use Rattle.stepping.specs.Step.{Steps}
use Rattle.model.proofs.Tests.{lt_or_ge}
use Rattle.segments.proofs.Segments.{member, lower, tail_ordered, head_placed, column_after, member_before}
use Rattle.segments.proofs.Sets.{segments_ordered, segments_member, segments_congr, few}
use Rattle.segments.proofs.Rows.{zeros, segments_few, row_congr, row_determines}
use Rattle.segments.proofs.Cut.{cut, span_behind, remains_ordered, segments_cut}
use Rattle.segments.proofs.Painting.{painted_length, painted_congr, painted_twice, painted_none}
use Rattle.segments.proofs.Tallies.{tally_or, tally_congr, tally_clear}
use Rattle.segments.proofs.Numbers.{shaped}
use Rattle.pairs.proofs.Moves.{read_here, two_zeros}
use Rattle.segments.proofs.Remains.{after_none, one_before, cut_rest}
use Rattle.stepping.proofs.Keeping.{held_segment}
use Rattle.stepping.proofs.Stepping.{spanned}

-- the span has been laid on the segments before `rest`; it is still to be laid on these
pub record Sweeping (row₀ cells₀ : List ℕ) (first last panel : ℕ) (row cells : List ℕ) (k looked lit : ℕ) (rest : List Segment) : Type 0 where
  pub fits : length cells₀ ≤ 256
  pub unlit : ℕ → Bool
  pub start : row₀ ≡ row_of (length cells₀) unlit
  pub done : List Segment
  pub held : Holds (length cells₀) k row done rest
  pub passed : k ≤ looked
  pub left : looked + length rest ≤ 128
  pub width : length cells ≡ length cells₀
  pub row_law : cut first last (segments (length cells₀) unlit) ≡ done ++ cut first last rest
  pub cells_law :
      painted (λ (i : ℕ). unlit i && in_span first last i) panel cells₀
      ≡ painted (λ (i : ℕ). member rest i && in_span first last i) panel cells
  pub lit_law : spanned first last (length cells₀) unlit ≡ lit + spanned first last (length cells₀) (member rest)
  pub looked_law : looked_at last (segments (length cells₀) unlit) ≡ looked + looked_at last rest

pub sweep_starts :
    {row cells : List ℕ} (first last panel : ℕ) → (r : Row (length cells) row) →
    Sweeping row cells first last panel row cells 0 0 0 (segments (length cells) r.unlit)
unfolding row_of row_from
sweep_starts {row} {cells} first last panel r =
    record {
      fits = r.fits;
      unlit = r.unlit;
      start = r.row_is;
      done = [];
      held = record {
        place = refl;
        few = omega (arith, segments_few (length cells) r.fits r.unlit);
        ordered = segments_ordered (length cells) r.unlit;
        row_is = r.row_is;
      };
      passed = omega arith;
      left = omega (arith, segments_few (length cells) r.fits r.unlit);
      width = refl;
      row_law = refl;
      cells_law = painted_congr _ _ panel cells (λ i h. rw (segments_member (length cells) r.unlit i h));
      lit_law = tally_congr _ _ (length cells) (λ i h. rw (segments_member (length cells) r.unlit i h)) ∙ sym (zero-add _);
      looked_law = sym (zero-add _);
    }

-- what is to be shown at the end, for every set of which the row at entry is the row
abbrev pub Swept : List ℕ → List ℕ → ℕ → ℕ → ℕ → List ℕ → List ℕ → ℕ → ℕ → Type 0
Swept row₀ cells₀ first last panel row cells lit looked =
    ((unlit : ℕ → Bool) → row₀ ≡ row_of (length cells₀) unlit → Lays unlit first last panel cells₀ row cells)
    × (((unlit : ℕ → Bool) → row₀ ≡ row_of (length cells₀) unlit → lit ≡ spanned first last (length cells₀) unlit)
    × ((unlit : ℕ → Bool) → row₀ ≡ row_of (length cells₀) unlit → looked ≡ looked_at last (segments (length cells₀) unlit)))

-- the row, the cells, the columns lit and the segments looked at are as the law says for one such set, so for every one
pub swept :
    {row₀ cells₀ : List ℕ} {first last panel : ℕ} {row cells : List ℕ} {lit looked : ℕ} (unlit : ℕ → Bool) → first ≤ last →
    length cells₀ ≤ 256 → row₀ ≡ row_of (length cells₀) unlit →
    row ≡ row_from (cut first last (segments (length cells₀) unlit)) →
    cells ≡ painted (λ (i : ℕ). unlit i && in_span first last i) panel cells₀ →
    lit ≡ spanned first last (length cells₀) unlit →
    looked ≡ looked_at last (segments (length cells₀) unlit) →
    Swept row₀ cells₀ first last panel row cells lit looked
unfolding row_of row_from
swept {row₀} {cells₀} {first} {last} {panel} u span fits start r c l k = (
  λ v e. record {
    row_is =
        r ∙ ap row_from (sym (segments_cut w u first last span))
        ∙ row_congr w (after_span u first last) (after_span v first last) (λ i h. rw (same v e i h));
    cells_are = c ∙ painted_congr _ _ panel cells₀ (λ i h. rw (same v e i h));
  },
  (λ v e. l ∙ tally_congr _ _ w (λ i h. rw (same v e i h)), λ v e. k ∙ ap (looked_at last) (segments_congr w u v (same v e))),
)
  where
    w : ℕ
    w = length cells₀

    same : (v : ℕ → Bool) → row₀ ≡ row_of (length cells₀) v → (i : ℕ) → i < length cells₀ → u i ≡ v i
    same v e = row_determines w fits u v (sym start ∙ e)

-- behind the last segment the row has an unused pair
pub held_end : {w k : ℕ} {row : List ℕ} {done : List Segment} → Holds w k row done [] → k < 128 → (segment_at row k).count ≡ 0
unfolding numbers_of
held_end {w} {k} {row} {done} held h =
    let z : Segment = record { offset = 0; count = 0 } in
    let n : ℕ = 256 - 2 * (length done + 0) in
    let e : row ≡ numbers_of done ++ 0 ∷ 0 ∷ zeros (n - 2) =
    held.row_is ∙ (shaped done [] held.few).row_is ∙ rw (two_zeros n (omega (arith, held.place))) in
    ap (λ (r : List ℕ). (segment_at r k).count) e ∙ ap (λ (x : Segment). x.count) (read_here done z (zeros (n - 2)) k held.place)

-- the span was laid on the first segment of those left
module _
    {row₀ cells₀ : List ℕ} {first last panel : ℕ} (span : first ≤ last) {row cells : List ℕ} {k looked lit : ℕ}
    {s : Segment} {ss : List Segment} (inv : Sweeping row₀ cells₀ first last panel row cells k looked lit (s ∷ ss))
    {row' cells' : List ℕ} {next : ℕ} {go : Bool} {lit_here : ℕ}
    (step : Steps k first last panel row cells row' cells' next go lit_here) where
  placed : Placed (length cells₀) (2 * k) s
  placed = head_placed inv.held.ordered

  after : Ordered (length cells₀) (suc (s.offset + s.count)) ss
  after = tail_ordered inv.held.ordered

  here : segment_at row k ≡ s
  here = held_segment inv.held

  -- a split needs no pair that is not there
  room : length inv.done + length (remains first last s ++ ss) ≤ 128
  room =
      let o = few (remains_ordered (2 * k) first last span s placed after) in
      omega (arith, inv.held.place, placed.filled, placed.inside, placed.from, inv.fits)

  laid_row : row' ≡ row_from (inv.done ++ (remains first last s ++ ss))
  laid_row = step.row_is.keeps (length cells₀) inv.done s ss inv.held room

  laid_here : cells' ≡ painted (λ (i : ℕ). in_segment s i && in_span first last i) panel cells
  laid_here =
      subst (λ (x : Segment). cells' ≡ painted (λ (i : ℕ). in_segment x i && in_span first last i) panel cells) here step.cells_are

  laid_cells :
      painted (λ (i : ℕ). inv.unlit i && in_span first last i) panel cells₀
      ≡ painted (λ (i : ℕ). member ss i && in_span first last i) panel cells'
  unfolding member
  laid_cells =
      inv.cells_law
      ∙ painted_congr _ (λ (i : ℕ). (in_segment s i && in_span first last i) || (member ss i && in_span first last i)) panel cells
      (λ i h. and-or_distrib_right (in_segment s i) (member ss i) (in_span first last i))
      ∙ sym (painted_twice (λ (i : ℕ). in_segment s i && in_span first last i) (λ (i : ℕ). member ss i && in_span first last i) panel cells)
      ∙ ap (painted (λ (i : ℕ). member ss i && in_span first last i) panel) (sym laid_here)

  -- no column is in the segment and in one after it
  parts_apart : (i : ℕ) → ((in_segment s i && in_span first last i) && (member ss i && in_span first last i)) ≡ false
  parts_apart i = side (lt_or_ge i (s.offset + s.count))
    where
      side :
          (i < s.offset + s.count) ⊎ (s.offset + s.count ≤ i) →
          ((in_segment s i && in_span first last i) && (member ss i && in_span first last i)) ≡ false
      side (inl h) = rw (member_before i (omega arith) after, and-false)
      side (inr h) = rw (column_after s i h)

  laid_lit : spanned first last (length cells₀) inv.unlit ≡ lit + lit_here + spanned first last (length cells₀) (member ss)
  unfolding member
  laid_lit =
      let w : ℕ = length cells₀ in
      let here_is : lit_here ≡ spanned first last w (in_segment s) =
      subst (λ (x : Segment). lit_here ≡ spanned first last w (in_segment x)) here (rw inv.width at step.lit_is) in
      let parts : spanned first last w (member (s ∷ ss)) ≡ spanned first last w (in_segment s) + spanned first last w (member ss) =
      tally_congr _ _ w (λ i h. and-or_distrib_right (in_segment s i) (member ss i) (in_span first last i))
      ∙ tally_or (λ (i : ℕ). in_segment s i && in_span first last i) (λ (i : ℕ). member ss i && in_span first last i) (range 0 w) parts_apart in
      omega (arith, inv.lit_law)

  go_here : go ≡ leb (s.offset + s.count) last
  go_here = subst (λ (x : Segment). go ≡ leb (x.offset + x.count) last) here step.go_is

  pub step_stops : go ≡ false → Swept row₀ cells₀ first last panel row' cells' (lit + lit_here) (looked + 1)
  unfolding cut looked_at
  step_stops e =
      let h : last < s.offset + s.count = leb-false (s.offset + s.count) last (sym go_here ∙ e) in
      swept inv.unlit span inv.fits inv.start
      (laid_row ∙ ap row_from (sym (inv.row_law ∙ rw (cut_rest first last span (omega arith) after))))
      (sym (laid_cells ∙ painted_none _ panel cells' (λ i l. clear i (lt_or_ge last i) h)))
      (omega (arith, laid_lit, tally_clear _ (length cells₀) (λ i l. clear i (lt_or_ge last i) h)))
      (sym (inv.looked_law ∙ rw (lt-ltb last (s.offset + s.count) h)))
    where
      clear : (i : ℕ) → (last < i) ⊎ (i ≤ last) → last < s.offset + s.count → (member ss i && in_span first last i) ≡ false
      clear i (inl l) h = rw (span_behind first last i l, and-false)
      clear i (inr l) h = rw (member_before i (omega arith) after)

  pub step_goes : go ≡ true → Sweeping row₀ cells₀ first last panel row' cells' next (looked + 1) (lit + lit_here) ss
  unfolding cut remains looked_at
  step_goes e =
      let h : s.offset + s.count ≤ last = leb-true (s.offset + s.count) last (sym go_here ∙ e) in
      let n : next ≡ k + length (remains_before first s) = subst (λ (x : Segment). next ≡ k + length (remains_before first x)) here step.next_is in
      let q : length (remains first last s) ≡ length (remains_before first s) = rw (after_none first last s (omega arith), append-nil) in
      let l : length (inv.done ++ remains first last s) ≡ length inv.done + length (remains first last s) =
      length-append inv.done (remains first last s) in
      let m : length (remains first last s ++ ss) ≡ length (remains first last s) + length ss = length-append (remains first last s) ss in
      let u : length (remains_before first s) ≤ 1 = one_before first s in
      record {
        fits = inv.fits;
        unlit = inv.unlit;
        start = inv.start;
        done = inv.done ++ remains first last s;
        held = record {
          place = omega (arith, inv.held.place);
          few = omega (arith, room);
          ordered = lower (2 * next) (omega (arith, placed.from, placed.filled)) after;
          row_is = laid_row ∙ ap row_from (sym (append_assoc inv.done (remains first last s) ss));
        };
        passed = omega (arith, inv.passed);
        left = omega (arith, inv.left);
        width = ap length laid_here ∙ painted_length _ panel cells ∙ inv.width;
        row_law = inv.row_law ∙ sym (append_assoc inv.done (remains first last s) (cut first last ss));
        cells_law = laid_cells;
        lit_law = laid_lit;
        looked_law = inv.looked_law ∙ rw (le-ltb last (s.offset + s.count) h) (omega arith);
      }
