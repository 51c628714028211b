-- Counted from the table of the patches' cells, the counts are those of the picture.
use mathlib.Core.Path.{◌≡◌, sym, ap, ◌∙◌}
use mathlib.Core.Bool.{cond}
use mathlib.Core.List.{List}
use Prim.Native.Nat.{ℕ, zero, suc, ◌+◌, ◌*◌, ◌≤◌, ◌<◌}
use native.Mathlib.Nat.{zero-add}
use native.Mathlib.Omega.{arith}
use lib.Dec.{eqb}
use lib.ListN.{length, get_or, length-map}
use lib.Seq.{ext_get_or}
use Rattle.model.specs.Lists.{range, occurrences}
use Rattle.model.specs.Vector.{Vec}
use Rattle.model.specs.Patch.{Patch, numbered}
use Rattle.model.specs.Picture.{picture, counts, count_entries}
use Rattle.model.specs.Booking.{has_cell, cells_where, patch_cells}
use Rattle.model.proofs.Ranges.{in_range, range_at, range_length}
use Rattle.model.proofs.Totals.{total, total_cong}
use Rattle.model.proofs.PanelSums.{patch_entries_lem, patch_entry, panel_sum_lem, cells_sum}
use Rattle.counting.specs.Counting.{together, of_panel, Counted}

module _
    (eye : Vec) (width height : ℕ) (direction : ℕ → ℕ → Vec) (ps : List Patch) {booked : List ℕ}
    (table : booked ≡ patch_cells eye width height direction ps)
  where
    abbrev shown : List ℕ
    shown = picture eye width height direction ps

    abbrev cells_of : ℕ → ℕ
    cells_of k = cells_where width height (λ (i j : ℕ). has_cell eye (direction i j) ps k)

    many : length booked ≡ length ps
    many = ap length table ∙ patch_entries_lem eye width height direction ps

    entry : (k : ℕ) → k < length ps → get_or booked k 0 ≡ cells_of k
    entry k h = ap (λ (l : List ℕ). get_or l k 0) table ∙ patch_entry eye width height direction ps k h

    -- a sum over the table is one over the patches
    over_patches :
        (f : ℕ → ℕ → ℕ) → total (λ (k : ℕ). f k (get_or booked k 0)) (range 0 (length booked)) ≡ total (λ (k : ℕ). f k (cells_of k)) (range 0 (length ps))
    over_patches f =
        ap (λ (n : ℕ). total (λ (k : ℕ). f k (get_or booked k 0)) (range 0 n)) many
        ∙ total_cong (λ (k : ℕ). f k (get_or booked k 0)) (λ (k : ℕ). f k (cells_of k)) (range 0 (length ps))
        (λ k m. ap (f k) (entry k (rw zero-add at ((in_range 0 (length ps) k).0 m).1)))

    module _ (positive : (k : ℕ) → k < length ps → 1 ≤ (numbered ps k).panel) where
      -- the patches' cells and those that show nothing are all cells
      all_cells : occurrences 0 shown + together booked (length booked) ≡ width * height
      unfolding together total
      all_cells =
          ap (λ (n : ℕ). occurrences 0 shown + n) (over_patches (λ (k n : ℕ). n)) ∙ cells_sum eye width height direction ps positive

      pub table_within : together booked (length booked) ≤ width * height
      table_within = omega (arith, all_cells)

      pub table_counts :
          {totals : List ℕ} → Counted (λ (k : ℕ). (numbered ps k).panel) booked (width * height) totals → totals ≡ counts shown
      unfolding counts of_panel total
      table_counts {totals} h =
          ext_get_or 0 totals (counts shown)
          (h.entries ∙ sym (length-map (range 0 count_entries) (λ (n : ℕ). occurrences n shown) ∙ range_length 0 count_entries))
          (λ n l.
          let m : n < count_entries = omega (arith, h.entries) in
          each n m ∙ sym (range_at (λ (n : ℕ). occurrences n shown) 0 count_entries n 0 m ∙ ap (λ (n : ℕ). occurrences n shown) (zero-add n)))
        where
          panels : (n : ℕ) → 1 ≤ n → of_panel (λ (k : ℕ). (numbered ps k).panel) booked (length booked) n ≡ occurrences n shown
          panels n p = over_patches (λ (k c : ℕ). cond (eqb (numbered ps k).panel n) c 0) ∙ sym (panel_sum_lem eye width height direction ps n p)

          each : (n : ℕ) → n < count_entries → get_or totals n 0 ≡ occurrences n shown
          each zero l = omega (arith, h.rest, all_cells)
          each (suc n) l = h.each (suc n) (omega arith) l ∙ panels (suc n) (omega arith)
