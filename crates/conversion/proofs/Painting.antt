-- A panel painted over some columns of all rows, row after row.
use mathlib.Core.Path.{◌≡◌, sym, ap, ap₂, subst, ◌∙◌}
use mathlib.Core.Logic.{◌≢◌, ⊎_elim}
use mathlib.Core.Bool.{Bool, true, false, not, ◌&&◌, and-true, and-false}
use mathlib.Core.List.{List}
use Prim.Native.Nat.{ℕ, suc, ◌+◌, ◌-◌, ◌*◌, ◌≤◌, ◌<◌}
use native.Mathlib.Decide.{ℕ_discrete}
use native.Mathlib.Omega.{arith}
use borrow.Author.Tests.{lt-leb, le-leb, lt-ltb, le-ltb}
use lib.Dec.{leb}
use lib.ListN.{length, get_or, set, get_or-eq_default}
use lib.Seq.{get_or-set_same, get_or-set_other}
use borrow.Rule.Slice.PartMut.{put_mid}
use Rattle.model.specs.Lists.{range, tally}
use Rattle.model.specs.Row.{row_of}
use Rattle.model.specs.Map.{map_row}
use Rattle.model.specs.Booking.{cells_where}
use Rattle.model.proofs.Tests.{lt_or_ge}
use Rattle.model.proofs.LitMap.{map_congr}
use Rattle.segments.specs.Columns.{painted}
use Rattle.segments.proofs.Rows.{row_congr, row_length_lem}
use Rattle.segments.proofs.Tallies.{tally_congr, tally_clear, tally_most}
use Rattle.segments.proofs.Painting.{painted_congr, painted_none, painted_length}
use Rattle.geometry.specs.declared.EdgeFunction.{EdgeFunction}
use Rattle.spans.specs.declared.Span.{Span}
use Rattle.spans.specs.Span.{covers}
use Rattle.spans.specs.Row.{all_above}
use Rattle.rows.specs.declared.RowUnderWork.{RowUnderWork}
use Rattle.rows.specs.Span.{no_row, UnderWork}
use Rattle.scanline.specs.Laying.{ColumnsPainted, ColumnsLaid}
use Rattle.conversion.specs.Canvas.{row_part, UnlitSets, in_rows, RowsPaintedOver}
use Rattle.conversion.proofs.Totals.{total_clear, total_one, total_most}
use Rattle.conversion.proofs.Parts.{lent_part, lent_is, part_long, row_inside, part_same, part_other}

-- ---- the rows of a span that grows

abbrev pub up_to : ℕ → ℕ → Span
up_to first j = record { first = first; end = j }

-- it has no row at first
pub none_covered : (first m : ℕ) → covers (up_to first first) m ≡ false
none_covered first m =
    ⊎_elim
    (λ (l : m < first). rw (lt-leb first m l))
    (λ (l : first ≤ m). rw (le-ltb m first l) (and-false (leb first m)))
    (lt_or_ge m first)

-- row j comes to it
next_uncovered : (first j : ℕ) → covers (up_to first j) j ≡ false
next_uncovered first j = rw (le-ltb j j (omega arith)) (and-false (leb first j))

next_covered : (first j : ℕ) → first ≤ j → covers (up_to first (j + 1)) j ≡ true
next_covered first j h = rw (le-leb first j h, lt-ltb j (j + 1) (omega arith))

others_covered : (first j m : ℕ) → m ≢ j → covers (up_to first (j + 1)) m ≡ covers (up_to first j) m
others_covered first j m f =
    ⊎_elim
    (λ (l : m < j). rw (lt-ltb m j l, lt-ltb m (j + 1) (omega arith)))
    (λ (l : j ≤ m).
    let g : j + 1 ≤ m = ⊎_elim (λ (a : j < m). omega arith) (λ (a : m ≤ j). absurd (f (omega arith))) (lt_or_ge j m) in
    rw (le-ltb m j l, le-ltb m (j + 1) g))
    (lt_or_ge m j)

-- ---- rows under work are there

there : (list : List RowUnderWork) (j n : ℕ) → length (get_or list j no_row).pairs ≡ suc n → j < length list
there list j n e =
    ⊎_elim (λ (l : j < length list). l)
    (λ (l : length list ≤ j). absurd (omega (arith, ap (λ (r : RowUnderWork). length r.pairs) (sym (get_or-eq_default list no_row l)) ∙ e)))
    (lt_or_ge j (length list))

module _ {width height : ℕ} {unlit : ℕ → ℕ → Bool} {rows : List RowUnderWork} (u : UnlitSets width height unlit rows) (j : ℕ) (b : j < height) where
  row_there : j < length rows
  row_there = there rows j 255 (ap length (u.rows_are j b) ∙ row_length_lem width (unlit j))

  -- what laying a span in row j asks
  pub row_under_work : (n : ℕ) → n ≡ width → width ≤ 256 → UnderWork n (get_or rows j no_row).pairs (get_or rows j no_row).words
  row_under_work n e narrow =
      record {
        listed = record { fits = omega arith; unlit = unlit j; row_is = rw e (u.rows_are j b) };
        words_are = rw e (u.words_are j b);
      }

-- ---- no row, one row more

module _ (fs : List EdgeFunction) (panel width height : ℕ) (unlit : ℕ → ℕ → Bool) (picture : List ℕ) where
  -- the rows of a span are painted
  abbrev pub Over : Span → List RowUnderWork → List ℕ → ℕ → Type 0
  Over reach rows picture' lit = RowsPaintedOver (in_rows reach fs) panel width height unlit picture rows picture' lit

  -- what is painted in row j, and what is left
  abbrev new : Span → ℕ → ℕ → Bool
  new reach j i = unlit j i && in_rows reach fs j i

  abbrev left : Span → ℕ → ℕ → Bool
  left reach j i = unlit j i && not (in_rows reach fs j i)

  none_new : (reach : Span) (j : ℕ) → covers reach j ≡ false → (i : ℕ) → new reach j i ≡ false
  none_new reach j e i = rw e (and-false (unlit j i))

  all_left : (reach : Span) (j : ℕ) → covers reach j ≡ false → (i : ℕ) → unlit j i ≡ left reach j i
  all_left reach j e i = rw e (sym (and-true (unlit j i)))

  pub over_none : (first : ℕ) {rows : List RowUnderWork} → UnlitSets width height unlit rows → Over (up_to first first) rows picture 0
  unfolding cells_where
  over_none first u =
      record {
        sets =
            record {
              rows_are = λ j b. u.rows_are j b ∙ row_congr width _ _ (λ i l. all_left (up_to first first) j (none_covered first j) i);
              words_are = λ j b. u.words_are j b ∙ map_congr width _ _ (λ i l. all_left (up_to first first) j (none_covered first j) i);
            };
        cells_are = λ j b. sym (painted_none _ panel (row_part width j picture) (λ i l. none_new (up_to first first) j (none_covered first j) i));
        lit_is = sym (total_clear _ height (λ j b. tally_clear _ width (λ i l. none_new (up_to first first) j (none_covered first j) i)));
      }

  module _ (first j : ℕ) {lit : ℕ} {rows : List RowUnderWork} {now : List ℕ} (inv : Over (up_to first j) rows now lit) where
    -- no more cells than there are
    pub over_most : width ≤ 256 → lit ≤ 256 * height
    unfolding cells_where
    over_most narrow = omega (arith, inv.lit_is, total_most (λ (m : ℕ). tally (new (up_to first j) m) (range 0 width)) height (λ m. omega (arith, tally_most (new (up_to first j) m) width)))

    module _
        (from : first ≤ j) (b : j < height) (room : height * width ≤ length now)
        {row : RowUnderWork} {cells : List ℕ} {n : ℕ}
        (laid : ColumnsLaid (λ (i : ℕ). all_above fs i j) panel (get_or rows j no_row).pairs (get_or rows j no_row).words (lent_part width j now) row.pairs row.words cells n)
      where
        long : length (lent_part width j now) ≡ width
        long = ap length (lent_is width j now) ∙ part_long width j now (row_inside width (length now) room b)

        next : ColumnsPainted (λ (i : ℕ). all_above fs i j) panel (left (up_to first j) j) (lent_part width j now) row.pairs row.words cells n
        next = laid.laid (left (up_to first j) j) (rw long (inv.sets.rows_are j b)) (rw long (inv.sets.words_are j b))

        cells_long : length cells ≡ width
        cells_long = ap length next.cells_are ∙ painted_length _ panel (lent_part width j now) ∙ long

        -- what was left of row j and what is painted there now
        now_left : (i : ℕ) → (left (up_to first j) j i && not (all_above fs i j)) ≡ left (up_to first (j + 1)) j i
        now_left i = rw (next_uncovered first j, next_covered first j from) (ap (λ (u : Bool). u && not (all_above fs i j)) (and-true (unlit j i)))

        now_new : (i : ℕ) → (left (up_to first j) j i && all_above fs i j) ≡ new (up_to first (j + 1)) j i
        now_new i = rw (next_uncovered first j, next_covered first j from) (ap (λ (u : Bool). u && all_above fs i j) (and-true (unlit j i)))

        -- and of another row
        other : (m : ℕ) → m ≢ j → (f : Bool → Bool) (i : ℕ) → (unlit m i && f (in_rows (up_to first j) fs m i)) ≡ (unlit m i && f (in_rows (up_to first (j + 1)) fs m i))
        other m f g i = ap (λ (c : Bool). unlit m i && g (c && all_above fs i m)) (sym (others_covered first j m f))

        pub over_goes :
            Over (up_to first (j + 1)) (set rows j row) (put_mid (j * width) (j * width + width - j * width) now cells) (lit + n)
        unfolding cells_where
        over_goes =
            record {
              sets =
                  record {
                    rows_are = λ m c. row_at m c (ℕ_discrete m j);
                    words_are = λ m c. words_at m c (ℕ_discrete m j);
                  };
              cells_are = λ m c. cells_at m c (ℕ_discrete m j);
              lit_is =
                  ap₂ ◌+◌ inv.lit_is (next.lit_is ∙ rw long (tally_congr _ _ width (λ i l. now_new i)))
                  ∙ sym (total_one
                  (λ (m : ℕ). tally (new (up_to first j) m) (range 0 width))
                  (λ (m : ℕ). tally (new (up_to first (j + 1)) m) (range 0 width)) j height b
                  (λ m c f. tally_congr _ _ width (λ i l. sym (other m f (λ (t : Bool). t) i)))
                  (tally_clear _ width (λ i l. none_new (up_to first j) j (next_uncovered first j) i)));
            }
          where
            row_at : (m : ℕ) → m < height → Dec (m ≡ j) → (get_or (set rows j row) m no_row).pairs ≡ row_of width (left (up_to first (j + 1)) m)
            row_at m c (yes e) =
                subst (λ (k : ℕ). (get_or (set rows j row) k no_row).pairs ≡ row_of width (left (up_to first (j + 1)) k)) (sym e)
                (ap (λ (r : RowUnderWork). r.pairs) (get_or-set_same rows j row no_row (row_there inv.sets j b)) ∙ next.row_is ∙ rw long (row_congr width _ _ (λ i l. now_left i)))
            row_at m c (no f) = ap (λ (r : RowUnderWork). r.pairs) (get_or-set_other rows j m row no_row f) ∙ inv.sets.rows_are m c ∙ row_congr width _ _ (λ i l. other m f not i)

            words_at : (m : ℕ) → m < height → Dec (m ≡ j) → (get_or (set rows j row) m no_row).words ≡ map_row width (left (up_to first (j + 1)) m)
            words_at m c (yes e) =
                subst (λ (k : ℕ). (get_or (set rows j row) k no_row).words ≡ map_row width (left (up_to first (j + 1)) k)) (sym e)
                (ap (λ (r : RowUnderWork). r.words) (get_or-set_same rows j row no_row (row_there inv.sets j b)) ∙ next.words_are ∙ rw long (map_congr width _ _ (λ i l. now_left i)))
            words_at m c (no f) = ap (λ (r : RowUnderWork). r.words) (get_or-set_other rows j m row no_row f) ∙ inv.sets.words_are m c ∙ map_congr width _ _ (λ i l. other m f not i)

            cells_at :
                (m : ℕ) → m < height → Dec (m ≡ j) →
                row_part width m (put_mid (j * width) (j * width + width - j * width) now cells) ≡ painted (new (up_to first (j + 1)) m) panel (row_part width m picture)
            cells_at m c (yes e) =
                subst
                (λ (k : ℕ).
                row_part width k (put_mid (j * width) (j * width + width - j * width) now cells) ≡ painted (new (up_to first (j + 1)) k) panel (row_part width k picture))
                (sym e)
                (part_same width j now cells (row_inside width (length now) room b) cells_long
                ∙ next.cells_are
                ∙ ap (painted (λ (i : ℕ). left (up_to first j) j i && all_above fs i j) panel)
                (lent_is width j now ∙ inv.cells_are j b ∙ painted_none _ panel (row_part width j picture) (λ i l. none_new (up_to first j) j (next_uncovered first j) i))
                ∙ painted_congr _ _ panel (row_part width j picture) (λ i l. now_new i))
            cells_at m c (no f) =
                part_other width j now cells (row_inside width (length now) room b) cells_long m f
                ∙ inv.cells_are m c
                ∙ painted_congr _ _ panel (row_part width m picture) (λ i l. other m f (λ (t : Bool). t) i)
