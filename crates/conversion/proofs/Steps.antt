-- One patch more is painted in all rows, and booked.
use mathlib.Core.Path.{◌≡◌, refl, sym, ap, subst, ◌∙◌}
use mathlib.Core.Logic.{⊎_elim}
use mathlib.Core.Bool.{Bool, true, false, not, ◌&&◌, true≢false}
use mathlib.Core.List.{List, [], map}
use Prim.Native.Nat.{ℕ, ◌+◌, ◌*◌, ◌≤◌, ◌<◌}
use native.Mathlib.Nat.{add-zero, mul_comm, mul-le-mul_right}
use native.Mathlib.Numerals.{add-one}
use native.Mathlib.Omega.{arith}
use lib.ListN.{length, get_or, set, take}
use lib.Seq.{take-suc, set-get_or, lt-length-set, get_or-set_same}
use borrow.Author.Tests.{le-leb, lt-ltb}
use Rattle.model.specs.Lists.{range, tally}
use Rattle.model.specs.Patch.{Patch}
use Rattle.model.specs.Ray.{met}
use Rattle.model.specs.Booking.{cells_where}
use Rattle.model.specs.Format.{decode, patch_numbered}
use Rattle.geometry.specs.declared.EdgeFunction.{EdgeFunction}
use Rattle.geometry.specs.Machine.{vec_of}
use Rattle.geometry.specs.Raster.{line_at}
use Rattle.model.proofs.LitMap.{map_congr}
use Rattle.segments.proofs.Rows.{row_congr}
use Rattle.segments.proofs.Tallies.{tally_congr}
use Rattle.segments.proofs.Painting.{painted_congr}
use Rattle.format.specs.declared.layout.Layout.{Layout}
use Rattle.checked.specs.Checked.{Checked}
use Rattle.spans.specs.declared.Span.{Span}
use Rattle.spans.specs.Span.{covers, Limited}
use Rattle.edges.specs.declared.Sight.{Sight}
use Rattle.edges.specs.Edges.{EdgesKept}
use Rattle.slopes.specs.declared.Sloped.{Sloped}
use Rattle.reach.specs.declared.RasterPlanes.{RasterPlanes}
use Rattle.reach.specs.Planes.{Sighting}
use Rattle.reach.specs.Reach.{Reach}
use Rattle.reach.proofs.ProperPatches.{numbered_proper}
use Rattle.rows.specs.declared.RowUnderWork.{RowUnderWork}
use Rattle.rows.specs.Span.{no_row}
use Rattle.scanline.specs.Shown.{unlit_after}
use Rattle.scanline.specs.Laying.{ColumnsPainted}
use Rattle.scanline.proofs.WalkPainted.{walk_goes}
use Rattle.conversion.specs.Canvas.{row_part, UnlitSets, in_rows, RowsAsked, RowsPaintedOver}
use Rattle.conversion.specs.Progress.{WalkPainted, PatchAsked}
use Rattle.conversion.proofs.Totals.{total_same}
use Rattle.conversion.proofs.PatchBooked.{patch_booked, booked_most}
use Rattle.conversion.proofs.Painting.{none_covered, over_none}

module _ {bytes : List ℕ} {s : Sight} {order : List ℕ} {rows : List RowUnderWork} {picture booked : List ℕ} {k : ℕ} (inv : WalkPainted bytes s order rows picture booked k) where
  -- the columns of each row that are unlit after k patches
  abbrev pub unlit_by : ℕ → ℕ → Bool
  unlit_by j = unlit_after (vec_of s.eye) (λ (i : ℕ). line_at s.raster i j) (map (patch_numbered (decode bytes)) (take k order))

  pub under_work : UnlitSets s.raster.width s.raster.height unlit_by rows
  under_work = record { rows_are = λ j b. (inv.each j b).so_far.row_is; words_are = λ j b. (inv.each j b).so_far.words_are }

  -- the next patch, and the cells that it newly lights
  abbrev next : Patch
  next = patch_numbered (decode bytes) (get_or order k 0)

  abbrev meets : ℕ → ℕ → Bool
  meets j i = met (vec_of s.eye) (line_at s.raster i j) next

  module _
      {columns : ℕ → ℕ → Bool} {rows' : List RowUnderWork} {picture' : List ℕ} {lit : ℕ} (h : k < length order)
      (same : (j : ℕ) → j < s.raster.height → (i : ℕ) → i < s.raster.width → columns j i ≡ meets j i)
      (over : RowsPaintedOver columns next.panel s.raster.width s.raster.height unlit_by picture rows' picture' lit)
    where
      lit_cells_lem : lit ≡ cells_where s.raster.width s.raster.height (λ (i j : ℕ). unlit_by j i && meets j i)
      unfolding cells_where
      lit_cells_lem =
          over.lit_is
          ∙ total_same _ _ s.raster.height
          (λ j b. tally_congr _ _ s.raster.width (λ i l. ap (λ (c : Bool). unlit_by j i && c) (same j b i l)))

      pub patch_goes : get_or order k 0 < length booked → WalkPainted bytes s order rows' picture' (set booked (get_or order k 0) (get_or booked (get_or order k 0) 0 + lit)) (k + 1)
      patch_goes entry =
          record {
            each = λ j b. walk_goes (inv.each j b) h (painted j b);
            booked_are =
                rw (add-one k, take-suc order k 0 h, lit_cells_lem)
                (patch_booked (vec_of s.eye) (line_at s.raster) (patch_numbered (decode bytes)) s.raster.width (take k order) (get_or order k 0) s.raster.height entry inv.booked_are);
          }
        where
          painted :
              (j : ℕ) → j < s.raster.height →
              ColumnsPainted (meets j) next.panel (unlit_by j) (row_part s.raster.width j picture) (get_or rows' j no_row).pairs (get_or rows' j no_row).words (row_part s.raster.width j picture')
              (tally (λ (i : ℕ). unlit_by j i && meets j i) (range 0 (length (row_part s.raster.width j picture))))
          painted j b =
              record {
                row_is = rw long (over.sets.rows_are j b ∙ row_congr s.raster.width _ _ (λ i l. ap (λ (c : Bool). unlit_by j i && not c) (same j b i l)));
                words_are = rw long (over.sets.words_are j b ∙ map_congr s.raster.width _ _ (λ i l. ap (λ (c : Bool). unlit_by j i && not c) (same j b i l)));
                cells_are =
                    over.cells_are j b
                    ∙ painted_congr _ _ next.panel (row_part s.raster.width j picture)
                    (λ i l. ap (λ (c : Bool). unlit_by j i && c) (same j b i (omega (arith, long))));
                lit_is = refl;
              }
            where
              long : length (row_part s.raster.width j picture) ≡ s.raster.width
              long = (inv.each j b).long

-- ---- what a call for one patch gives

module _
    {bytes : List ℕ} {l : Layout} {order : List ℕ} {k : ℕ} {s : Sight} {planes : RasterPlanes} {rows : List RowUnderWork} {picture booked : List ℕ}
    (asked : PatchAsked bytes l order k s planes rows picture booked)
  where
    abbrev p : Patch
    p = patch_numbered (decode bytes) (get_or order k 0)

    pub number : get_or order k 0 < l.patches
    number = asked.paintable.numbers k asked.next

    pub entry : get_or order k 0 < length booked
    entry = omega (arith, number, asked.entries)

    pub sighting : Checked bytes l → Sighting bytes l (get_or order k 0) s.eye s.raster planes
    sighting readable =
        record {
          number = number;
          proper = numbered_proper readable asked.paintable.proper (get_or order k 0) number;
          eye_bounded = asked.paintable.sight.eye_bounded;
          planes_of = asked.planes_of;
          width_limit = omega (arith, asked.paintable.narrow);
          height_limit = omega (arith, asked.paintable.low);
        }

    -- a patch that no cell's line meets changes nothing
    pub patch_missed :
        ((j : ℕ) → j < s.raster.height → (i : ℕ) → i < s.raster.width → met (vec_of s.eye) (line_at s.raster i j) p ≡ false) →
        WalkPainted bytes s order rows picture booked (k + 1)
    patch_missed missed =
        subst (λ (b : List ℕ). WalkPainted bytes s order rows picture b (k + 1))
        (ap (set booked (get_or order k 0)) (add-zero (get_or booked (get_or order k 0) 0)) ∙ set-get_or booked (get_or order k 0) 0)
        (patch_goes asked.so_far asked.next
        (λ j b i l. rw (none_covered 0 j) (sym (missed j b i l)))
        (over_none [] p.panel s.raster.width s.raster.height (unlit_by asked.so_far) picture 0 (under_work asked.so_far))
        entry)

    module _
        {reach : Span} {table : List EdgeFunction} {r : Sloped} (found : Reach (vec_of s.eye) s.raster p reach) (limited : Limited s.raster.height reach)
        (edges : EdgesKept s p reach table r)
      where
        inside : r.reach.end ≤ s.raster.height
        inside = omega (arith, edges.shaped.limited, limited.end_limit)

        room : s.raster.height * s.raster.width ≤ length picture
        room = omega (arith, asked.cells, mul_comm s.raster.width s.raster.height)

        pub rows_asked_lem : RowsAsked (take r.count table) r.reach s.raster.width rows picture
        rows_asked_lem =
            record {
              run = edges.run;
              ordered = ⊎_elim (λ (h : r.reach.first < r.reach.end). omega arith) (λ (e : (r.reach.first ≡ 0) × (r.reach.end ≡ 0)). omega (arith, e.0)) edges.shaped.written;
              low = omega (arith, inside, asked.paintable.low);
              narrow = asked.paintable.narrow;
              cells = omega (arith, room, mul-le-mul_right s.raster.width inside);
              unlit = unlit_by asked.so_far;
              under_work =
                  record {
                    rows_are = λ j b. (under_work asked.so_far).rows_are j (omega (arith, inside));
                    words_are = λ j b. (under_work asked.so_far).words_are j (omega (arith, inside));
                  };
            }

        module _
            {panel : ℕ} {rows' : List RowUnderWork} {picture' : List ℕ} {lit : ℕ} (panel_is : panel ≡ p.panel)
            (over :
            (height : ℕ) (unlit : ℕ → ℕ → Bool) → r.reach.end ≤ height → height * s.raster.width ≤ length picture → UnlitSets s.raster.width height unlit rows →
            RowsPaintedOver (in_rows r.reach (take r.count table)) panel s.raster.width height unlit picture rows' picture' lit)
          where
            -- it is met in the rows of its reach alone, and there in the rows that are left, where the functions kept are above 0
            met_there : (j : ℕ) → j < s.raster.height → (i : ℕ) → i < s.raster.width → in_rows r.reach (take r.count table) j i ≡ met (vec_of s.eye) (line_at s.raster i j) p
            met_there j b i l = edges.same j i ∙ go (covers reach j) refl
              where
                outside : covers reach j ≡ false → reach.first ≤ j → j < reach.end → ⊥
                outside e x y = let t : true ≡ false = sym (rw (le-leb reach.first j x, lt-ltb j reach.end y)) ∙ e in absurd (true≢false t)

                go : (c : Bool) → covers reach j ≡ c → (c && met (vec_of s.eye) (line_at s.raster i j) p) ≡ met (vec_of s.eye) (line_at s.raster i j) p
                go true e = refl
                go false e = sym (found.missed j b (outside e) i)

            pub patch_done : WalkPainted bytes s order rows' picture' (set booked (get_or order k 0) (get_or booked (get_or order k 0) 0 + lit)) (k + 1)
            patch_done =
                patch_goes asked.so_far asked.next met_there
                (subst
                (λ (n : ℕ).
                RowsPaintedOver (in_rows r.reach (take r.count table)) n s.raster.width s.raster.height (unlit_by asked.so_far) picture rows' picture' lit)
                panel_is (over s.raster.height (unlit_by asked.so_far) inside room (under_work asked.so_far)))
                entry

            -- no patch has more cells than the picture
            pub entry_fits : get_or booked (get_or order k 0) 0 + lit ≤ 32768
            entry_fits =
                omega (
                  arith,
                  booked_most (vec_of s.eye) (line_at s.raster) (patch_numbered (decode bytes)) s.raster.width asked.paintable.narrow patch_done.booked_are (get_or order k 0)
                      (lt-length-set booked (get_or order k 0) (get_or booked (get_or order k 0) 0 + lit) entry),
                  get_or-set_same booked (get_or order k 0) (get_or booked (get_or order k 0) 0 + lit) 0 entry,
                  asked.paintable.low,
                )
