-- The cells of a picture painted patch after patch, each in all rows before the next, in the table of the patches' cells.
use mathlib.Core.Path.{◌≡◌, refl, sym, ap, ◌∙◌}
use mathlib.Core.Bool.{false, cond, ◌&&◌}
use mathlib.Core.List.{List, [], ◌∷◌, ◌++◌, map}
use Prim.Native.Nat.{ℕ, ◌+◌, ◌*◌, ◌≤◌, ◌<◌}
use native.Mathlib.Omega.{arith}
use lib.Dec.{eqb}
use lib.ListN.{length, get_or, set, replicate, length-set}
use Rattle.model.specs.Lists.{range, tally}
use Rattle.model.specs.Vector.{Vec}
use Rattle.model.specs.Patch.{Patch}
use Rattle.model.specs.Ray.{met}
use Rattle.model.specs.Booking.{first_is, cells_where}
use Rattle.model.proofs.Tables.{zero_at}
use Rattle.segments.proofs.Tallies.{tally_most, tally_clear}
use Rattle.scanline.specs.Shown.{unlit_after}
use Rattle.cells.proofs.Adding.{grown}
use Rattle.conversion.specs.Booked.{Booked}
use Rattle.conversion.proofs.Totals.{total_same, total_adds, total_most, total_clear}
use Rattle.conversion.proofs.FirstBooked.{row_cells, newly_lit, row_more, row_stays}

module _ (eye : Vec) (ray : ℕ → ℕ → Vec) (patch : ℕ → Patch) (width : ℕ) where
  -- the cells whose rays meet patch m, and none of some patches
  abbrev new_cells : List ℕ → ℕ → ℕ → ℕ
  new_cells ks m height = cells_where width height (λ (i j : ℕ). unlit_after eye (λ (i : ℕ). ray i j) (map patch ks) i && met eye (ray i j) (patch m))

  -- a patch's cells, row after row, when one patch more is painted
  more_cells :
      (ks : List ℕ) (m n height : ℕ) →
      cells_where width height (λ (i j : ℕ). first_is eye (ray i j) patch (ks ++ m ∷ []) n)
      ≡ cells_where width height (λ (i j : ℕ). first_is eye (ray i j) patch ks n)
      + cond (eqb m n) (new_cells ks m height) 0
  unfolding cells_where row_cells newly_lit
  more_cells ks m n height =
      total_adds
      (λ (j : ℕ). row_cells eye (λ (i : ℕ). ray i j) patch (ks ++ m ∷ []) width n)
      (λ (j : ℕ). row_cells eye (λ (i : ℕ). ray i j) patch ks width n)
      (λ (j : ℕ). newly_lit eye (λ (i : ℕ). ray i j) width (map patch ks) (patch m)) (eqb m n) height
      (λ j. row_more eye (λ (i : ℕ). ray i j) patch width n ks m)

  -- one patch more adds what it newly lights in all rows to its own entry
  pub patch_booked :
      (ks : List ℕ) (m height : ℕ) {booked : List ℕ} → m < length booked → Booked eye ray patch ks width booked height →
      Booked eye ray patch (ks ++ m ∷ []) width (set booked m (get_or booked m 0 + new_cells ks m height)) height
  patch_booked ks m height {booked} h inv =
      let v : ℕ = new_cells ks m height in
      record {
        each = λ n l.
            let b : n < length booked = omega (arith, length-set booked m (get_or booked m 0 + v)) in
            grown booked m v n h ∙ ap (λ (c : ℕ). c + cond (eqb m n) v 0) (inv.each n b) ∙ sym (more_cells ks m n height);
      }

  -- nothing is booked by no patch
  pub none_booked : (n height : ℕ) → Booked eye ray patch [] width (replicate n 0) height
  unfolding cells_where first_is
  none_booked n height =
      let cells : ℕ → ℕ = λ (j : ℕ). tally (λ (i : ℕ). false) (range 0 width) in
      record {
        each = λ k l.
            zero_at n k
            ∙ sym (total_clear cells height (λ j a. tally_clear (λ (i : ℕ). false) width (λ i h. refl)));
      }

  -- no entry is above all cells
  pub booked_most :
      width ≤ 256 → {ks booked : List ℕ} {height : ℕ} → Booked eye ray patch ks width booked height →
      (n : ℕ) → n < length booked → get_or booked n 0 ≤ 256 * height
  unfolding cells_where
  booked_most narrow {ks} {booked} {height} inv n l =
      let cells : ℕ → ℕ = λ (j : ℕ). tally (λ (i : ℕ). first_is eye (ray i j) patch ks n) (range 0 width) in
      let low : (j : ℕ) → cells j ≤ 256 = λ j. omega (arith, tally_most (λ (i : ℕ). first_is eye (ray i j) patch ks n) width) in
      omega (arith, inv.each n l, total_most cells height low)

  -- where every row is full, the rest of a walk is booked nothing
  pub full_booked :
      (ks rest : List ℕ) {booked : List ℕ} {height : ℕ} →
      ((j : ℕ) → j < height → (i : ℕ) → i < width → unlit_after eye (λ (i : ℕ). ray i j) (map patch ks) i ≡ false) →
      Booked eye ray patch ks width booked height → Booked eye ray patch (ks ++ rest) width booked height
  unfolding cells_where row_cells
  full_booked ks rest {booked} {height} full inv =
      record {
        each = λ n l.
            inv.each n l
            ∙ total_same
            (λ (j : ℕ). row_cells eye (λ (i : ℕ). ray i j) patch ks width n)
            (λ (j : ℕ). row_cells eye (λ (i : ℕ). ray i j) patch (ks ++ rest) width n) height
            (λ j h. sym (row_stays eye (λ (i : ℕ). ray i j) patch width n ks rest (full j h)));
      }
