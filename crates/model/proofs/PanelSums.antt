-- The table of the patches' cells, and a panel's count as the sum over its patches.
use mathlib.Core.Path.{◌≡◌, refl, sym, ap, ap₂, subst, fun_ext, ◌∙◌}
use mathlib.Core.Logic.{inl, inr}
use mathlib.Core.Bool.{Bool, true, false, not, cond}
use mathlib.Core.List.{List, map, sum}
use Prim.Native.Nat.{ℕ, zero-le, ◌+◌, ◌*◌, ◌≤◌, ◌<◌}
use native.Mathlib.Nat.{zero-add, mul_comm}
use native.Mathlib.Omega.{arith}
use lib.Dec.{eqb, eqb→eq, eqb_refl}
use lib.ListN.{length, get_or, length-map}
use borrow.Author.Tests.{ne_eqb}
use Rattle.model.specs.Lists.{range, tally, occurrences}
use Rattle.model.specs.Vector.{Vec}
use Rattle.model.specs.Patch.{Patch, numbered}
use Rattle.model.specs.Ray.{closest, none_met}
use Rattle.model.specs.Picture.{cells, picture, cell_panel}
use Rattle.model.specs.Booking.{has_cell, cells_where, patch_cells}
use Rattle.model.proofs.Tests.{same_test}
use Rattle.model.proofs.Ranges.{get_d_member, range_length, range_at, in_range}
use Rattle.model.proofs.Totals.{total, total_cong, total_zero, total_add, total_map, total_swap, total_same, only, tally_map, tally_flatten, tally_all, tally_split, tally_total, picked}
use Rattle.model.proofs.Closest.{closest_only}
use Rattle.model.proofs.Leads.{Has, has_says}
use Rattle.model.proofs.Booked.{has_once, has_panel, NoneOrOne, none_or_one}

-- ---- sums over the cells of a picture

module _ (width height : ℕ) where
  abbrev pub over_cells : (ℕ → ℕ → ℕ) → ℕ
  over_cells f = total (λ (j : ℕ). total (λ (i : ℕ). f i j) (range 0 width)) (range 0 height)

  -- how many cells pass a test
  pub where_total : (test : ℕ → ℕ → Bool) → cells_where width height test ≡ over_cells (λ (i j : ℕ). only (test i j) 1)
  unfolding cells_where total
  where_total test =
      ap (λ (f : ℕ → ℕ). total f (range 0 height)) (fun_ext (λ j. tally_total (λ (i : ℕ). test i j) (range 0 width)))

  -- a number stands among the cells as often as cells hold it
  pub occurrences_where :
      (value : ℕ → ℕ → ℕ) (n : ℕ) →
      occurrences n (cells width height value) ≡ cells_where width height (λ (i j : ℕ). eqb (value i j) n)
  unfolding cells cells_where total
  occurrences_where value n =
      tally_flatten (λ (m : ℕ). eqb m n) (map row (range 0 height))
      ∙ total_map (occurrences n) row (range 0 height)
      ∙ ap (λ (f : ℕ → ℕ). total f (range 0 height))
      (fun_ext (λ j. tally_map (λ (m : ℕ). eqb m n) (λ (i : ℕ). value i j) (range 0 width)))
    where
      row : ℕ → List ℕ
      row j = map (λ (i : ℕ). value i j) (range 0 width)

  -- a sum in each cell
  pub cells_swap :
      {A : Type 0} (f : ℕ → ℕ → A → ℕ) (l : List A) →
      over_cells (λ (i j : ℕ). total (f i j) l) ≡ total (λ (a : A). over_cells (λ (i j : ℕ). f i j a)) l
  cells_swap {A} f l =
      ap (λ (g : ℕ → ℕ). total g (range 0 height)) (fun_ext (λ j. total_swap (λ (i : ℕ) (a : A). f i j a) (range 0 width) l))
      ∙ total_swap (λ (j : ℕ) (a : A). total (λ (i : ℕ). f i j a) (range 0 width)) (range 0 height) l

  cells_only_lem : (b : Bool) (f : ℕ → ℕ → ℕ) → over_cells (λ (i j : ℕ). only b (f i j)) ≡ only b (over_cells f)
  cells_only_lem true f = refl
  cells_only_lem false f =
      ap (λ (g : ℕ → ℕ). total g (range 0 height)) (fun_ext (λ j. total_zero (range 0 width))) ∙ total_zero (range 0 height)

  -- a cell passes a test or fails it
  cells_split : (test : ℕ → ℕ → Bool) → cells_where width height test + cells_where width height (λ (i j : ℕ). not (test i j)) ≡ width * height
  unfolding cells_where total
  cells_split test =
      sym (total_add (λ (j : ℕ). tally (λ (i : ℕ). test i j) (range 0 width)) (λ (j : ℕ). tally (λ (i : ℕ). not (test i j)) (range 0 width)) (range 0 height))
      ∙ ap (λ (f : ℕ → ℕ). total f (range 0 height))
      (fun_ext (λ j. tally_split (λ (i : ℕ). test i j) (range 0 width) ∙ range_length 0 width))
      ∙ total_same (λ (j : ℕ). true) width (range 0 height)
      ∙ ap (λ (n : ℕ). n * width) (tally_all (range 0 height) ∙ range_length 0 height)
      ∙ mul_comm height width

-- ---- one cell

only_exchange : (a b : Bool) (n : ℕ) → only a (only b n) ≡ only b (only a n)
only_exchange true b n = refl
only_exchange false true n = refl
only_exchange false false n = refl

module _ (eye d : Vec) (ps : List Patch) (test : ℕ → Bool) (fails : test 0 ≡ false) where
  -- 1 where patch k is of a panel that passes the test
  abbrev one : ℕ → ℕ
  one k = only (test (numbered ps k).panel) 1

  -- a cell whose panel passes a test that 0 fails is one of just one patch of such panels
  cell_sum :
      only (test (closest eye d ps)) 1
      ≡ total (λ (k : ℕ). only (test (numbered ps k).panel) (only (has_cell eye d ps k) 1)) (range 0 (length ps))
  cell_sum = go (none_or_one eye d ps)
    where
      booked : ℕ → ℕ
      booked k = only (test (numbered ps k).panel) (only (has_cell eye d ps k) 1)

      -- where a test says who has the cell
      by_test :
          (has : ℕ → Bool) →
          ((k : ℕ) → k < length ps → has_cell eye d ps k ≡ has k) →
          total booked (range 0 (length ps)) ≡ total (λ (k : ℕ). only (has k) (one k)) (range 0 (length ps))
      by_test has same =
          total_cong booked (λ (k : ℕ). only (has k) (one k)) (range 0 (length ps))
          (λ k m.
          only_exchange (test (numbered ps k).panel) (has_cell eye d ps k) 1
          ∙ ap (λ (b : Bool). only b (one k)) (same k (rw zero-add at ((in_range 0 (length ps) k).0 m).1)))

      go : NoneOrOne eye d ps → only (test (closest eye d ps)) 1 ≡ total booked (range 0 (length ps))
      go (inl f) =
          ap (λ (m : ℕ). only (test m) 1) (sym (closest_only eye d ps (none_met f)))
          ∙ ap (λ (b : Bool). only b 1) fails
          ∙ sym (total_zero (range 0 (length ps)))
          ∙ sym (by_test (λ (k : ℕ). false)
          (λ k hk.
          same_test (has_cell eye d ps k) false
          (λ t. f (numbered ps k) (get_d_member ps k _ hk) ((has_says eye d ps k).0 t).is_met) (λ t. absurd t)))
      go (inr (m, hm, h)) =
          ap (λ (p : ℕ). only (test p) 1) (has_panel eye d ps m hm h)
          ∙ sym (picked one m 0 (length ps) zero-le (λ l. absurd (omega arith)))
          ∙ sym (by_test (eqb m)
          (λ k hk.
          same_test (has_cell eye d ps k) (eqb m k)
          (λ t. rw (has_once eye d ps m k hm hk h ((has_says eye d ps k).0 t)) (eqb_refl k))
          (λ t. (has_says eye d ps k).1 (subst (Has eye d ps) (eqb→eq m k t) h))))

-- ---- all cells

module _ (eye : Vec) (width height : ℕ) (direction : ℕ → ℕ → Vec) (ps : List Patch) where
  abbrev cells_of : ℕ → ℕ
  cells_of k = cells_where width height (λ (i j : ℕ). has_cell eye (direction i j) ps k)

  -- one entry a patch: its cells
  pub patch_entries_lem : length (patch_cells eye width height direction ps) ≡ length ps
  unfolding patch_cells
  patch_entries_lem = length-map (range 0 (length ps)) cells_of ∙ range_length 0 (length ps)

  pub patch_entry :
      (k : ℕ) →
      k < length ps →
      get_or (patch_cells eye width height direction ps) k 0 ≡ cells_where width height (λ (i j : ℕ). has_cell eye (direction i j) ps k)
  unfolding patch_cells
  patch_entry k h = range_at cells_of 0 (length ps) k 0 h ∙ ap cells_of (zero-add k)

  -- the cells of the panels that pass a test, which 0 fails, are those of their patches together
  where_sum :
      (test : ℕ → Bool) →
      test 0 ≡ false →
      cells_where width height (λ (i j : ℕ). test (closest eye (direction i j) ps))
      ≡ total (λ (k : ℕ). only (test (numbered ps k).panel) (cells_of k)) (range 0 (length ps))
  where_sum test fails =
      where_total width height (λ (i j : ℕ). test (closest eye (direction i j) ps))
      ∙ ap (over_cells width height) (fun_ext (λ i. fun_ext (λ j. cell_sum eye (direction i j) ps test fails)))
      ∙ cells_swap width height (λ (i j k : ℕ). only (passes k) (only (has_cell eye (direction i j) ps k) 1)) (range 0 (length ps))
      ∙ ap (λ (f : ℕ → ℕ). total f (range 0 (length ps)))
      (fun_ext
      (λ k.
      cells_only_lem width height (passes k) (λ (i j : ℕ). only (has_cell eye (direction i j) ps k) 1)
      ∙ ap (only (passes k)) (sym (where_total width height (λ (i j : ℕ). has_cell eye (direction i j) ps k)))))
    where
      passes : ℕ → Bool
      passes k = test (numbered ps k).panel

  -- Document 02, F-2: "A panel's count is the sum over its patches."
  pub panel_sum_lem :
      (n : ℕ) →
      1 ≤ n →
      occurrences n (picture eye width height direction ps)
      ≡ sum ◌+◌ 0
      (map
      (λ (k : ℕ).
      cond (eqb (numbered ps k).panel n) (cells_where width height (λ (i j : ℕ). has_cell eye (direction i j) ps k)) 0)
      (range 0 (length ps)))
  unfolding picture total
  panel_sum_lem n h =
      occurrences_where width height (cell_panel eye direction ps) n
      ∙ where_sum (λ (m : ℕ). eqb m n) (ne_eqb 0 n (λ e. omega arith))

  -- where every panel has a number above 0: the cells of all patches and those that show nothing are all cells
  pub cells_sum :
      ((k : ℕ) → k < length ps → 1 ≤ (numbered ps k).panel) →
      occurrences 0 (picture eye width height direction ps) + total cells_of (range 0 (length ps)) ≡ width * height
  unfolding picture
  cells_sum positive =
      ap₂ ◌+◌ (occurrences_where width height (cell_panel eye direction ps) 0) (sym (where_sum (λ (m : ℕ). not (eqb m 0)) refl ∙ each))
      ∙ cells_split width height (λ (i j : ℕ). eqb (closest eye (direction i j) ps) 0)
    where
      each :
          total (λ (k : ℕ). only (not (eqb (numbered ps k).panel 0)) (cells_of k)) (range 0 (length ps))
          ≡ total cells_of (range 0 (length ps))
      each =
          total_cong (λ (k : ℕ). only (not (eqb (numbered ps k).panel 0)) (cells_of k)) cells_of (range 0 (length ps))
          (λ k m.
          let h : k < length ps = rw zero-add at ((in_range 0 (length ps) k).0 m).1 in
          rw (ne_eqb (numbered ps k).panel 0 (λ e. absurd (omega (arith, positive k h)))))
