-- Each window can be covered once by tiles that question 10 lets pass: by a grid of tiles.
use mathlib.Core.Path.{◌≡◌, refl, sym, ap, ap₂, fun_ext, ◌∙◌}
use mathlib.Core.Bool.{Bool, true, false, ◌&&◌, and-true, and-false}
use mathlib.Core.List.{List, [], ◌∷◌, map, flatten, Memᴰ}
use Prim.Native.Nat.{ℕ, zero-le, ◌+◌, ◌*◌, ◌/◌, ◌≤◌, ◌<◌}
use native.Mathlib.Nat.{zero-add, suc-mul, add-mul, le-div_iff_mul-le, div-mul-le_self, lt-div-mul-add, div-eq_of_lt-le}
use native.Mathlib.Omega.{arith}
use lib.Dec.{T, eqb, leb, ltb, leb→le, ltb→lt, eqb→eq, lit<}
use lib.ListN.{length}
use borrow.Author.Tests.{lt-ltb, le-leb, eq-eqb}
use Rattle.model.specs.Lists.{range, tally}
use Rattle.model.specs.View.{Window, Tile, holds}
use Rattle.model.specs.Questions.{within, tile_in_window}
use Rattle.model.proofs.Tests.{both, is_true, same_test, every_true, tally_none}
use Rattle.model.proofs.Ranges.{of_map, of_flatten, in_range}
use Rattle.model.proofs.Totals.{total, total_map, total_same, only, tally_map, tally_flatten, tally_total, picked}
use Rattle.contract.specs.Contract.{tile_by}
use Rattle.windows.specs.Windows.{CoverOnce}
use Rattle.windows.specs.Covering.{Coverable, part_count, part_size, grid_tile, grid_tiles}

-- ---- a line of cells, in parts of any size

-- cell x lies in part i
abbrev in_part : ℕ → ℕ → ℕ → ℕ → Bool
in_part size n x i = leb (i * size) x && ltb x (i * size + part_size size n i)

module _ (size n : ℕ) (some : 0 < size) where
  -- a part begins within the line, so it is not empty, no longer than it may be, and ends within the line
  part_inside :
      (i : ℕ) → i < part_count size n →
      (within 1 size (part_size size n i) ≡ true) × (leb (i * size + part_size size n i) n ≡ true)
  part_inside i h =
      let enough = (le-div_iff_mul-le some).0 h in
      let begins : i * size < n = omega (arith, suc-mul i size) in (
        rw (le-leb 1 (part_size size n i) (omega arith), le-leb (part_size size n i) size (omega arith)),
        le-leb (i * size + part_size size n i) n (omega arith),
      )

  module _ (x : ℕ) (in_line : x < n) where
    -- cell x lies in part x / size and in no other
    part_of : (i : ℕ) → in_part size n x i ≡ eqb (x / size) i
    part_of i = same_test (in_part size n x i) (eqb (x / size) i) to from
      where
        to : T (in_part size n x i) → T (eqb (x / size) i)
        to t =
            let b = (both (leb (i * size) x) (ltb x (i * size + part_size size n i))).0 t in
            let first : i * size ≤ x = leb→le (i * size) x b.0 in
            let last : x < i * size + part_size size n i = ltb→lt x (i * size + part_size size n i) b.1 in
            is_true (eq-eqb (x / size) i (div-eq_of_lt-le size first (omega (arith, add-mul i 1 size))))

        from : T (eqb (x / size) i) → T (in_part size n x i)
        from t =
            let own : ℕ = x / size * size in
            let last : x < own + part_size size n (x / size) = omega (arith, lt-div-mul-add {a = x} some) in
            rw (sym (eqb→eq (x / size) i t), le-leb own x (div-mul-le_self x size), lt-ltb x (own + part_size size n (x / size)) last) tt

    -- which is one of the parts
    in_one_part : tally (in_part size n x) (range 0 (part_count size n)) ≡ 1
    in_one_part =
        let there : x / size < part_count size n = (le-div_iff_mul-le some).1 (omega (arith, suc-mul (x / size) size, div-mul-le_self x size)) in
        tally_total (in_part size n x) (range 0 (part_count size n))
        ∙ ap (λ (f : ℕ → ℕ). total f (range 0 (part_count size n))) (fun_ext (λ i. ap (λ (b : Bool). only b 1) (part_of i)))
        ∙ picked (λ (i : ℕ). 1) (x / size) 0 (part_count size n) zero-le (λ h. absurd (omega arith))

-- ---- the grid

-- a row of tiles has a cell as often as its columns do, where its rows do, and elsewhere never
in_row : (test : ℕ → Bool) (l : List ℕ) (b : Bool) → tally (λ (i : ℕ). test i && b) l ≡ only b (tally test l)
in_row test l true = ap (λ (f : ℕ → Bool). tally f l) (fun_ext (λ i. and-true (test i)))
in_row test l false = (tally_none (λ (i : ℕ). test i && false) l).1 (λ i m t. rw and-false at t)

module _ (w : Window) where
  abbrev columns : ℕ
  columns = part_count 256 w.width

  abbrev rows : ℕ
  rows = part_count 128 w.height

  abbrev row : ℕ → List Tile
  row j = map (λ (i : ℕ). grid_tile w i j) (range 0 columns)

  -- question 10 lets each tile pass
  grid_inside : (t : Tile) → Memᴰ t (grid_tiles w) → T (tile_in_window w t)
  unfolding grid_tiles
  grid_inside =
      of_flatten Passes (map row (range 0 rows))
      (of_map (λ (ts : List Tile). (t : Tile) → Memᴰ t ts → Passes t) row (range 0 rows)
      (λ j k. of_map Passes (λ (i : ℕ). grid_tile w i j) (range 0 columns) (λ i h. passes i j h k)))
    where
      Passes : Tile → Type 0
      Passes t = T (tile_in_window w t)

      passes : (i j : ℕ) → Memᴰ i (range 0 columns) → Memᴰ j (range 0 rows) → Passes (grid_tile w i j)
      passes i j h k =
          let c = part_inside 256 w.width (lit< tt) i (rw zero-add at ((in_range 0 columns i).0 h).1) in
          let r = part_inside 128 w.height (lit< tt) j (rw zero-add at ((in_range 0 rows j).0 k).1) in
          rw (c.0, r.0, c.1, r.1) tt

  -- each cell lies in one column of tiles and in one row of them
  grid_once : CoverOnce w (grid_tiles w)
  unfolding grid_tiles
  grid_once x y h k =
      tally_flatten held (map row (range 0 rows))
      ∙ total_map (tally held) row (range 0 rows)
      ∙ ap (λ (f : ℕ → ℕ). total f (range 0 rows))
      (fun_ext (λ j. tally_map held (λ (i : ℕ). grid_tile w i j) (range 0 columns) ∙ in_row column (range 0 columns) (in_part 128 w.height y j)))
      ∙ total_same (in_part 128 w.height y) (tally column (range 0 columns)) (range 0 rows)
      ∙ ap₂ ◌*◌ (in_one_part 128 w.height (lit< tt) y k) (in_one_part 256 w.width (lit< tt) x h)
    where
      held : Tile → Bool
      held t = holds t x y

      column : ℕ → Bool
      column = in_part 256 w.width x

  -- "The picture is made in tiles of at most 256 by 128": so any window can be, whatever its size
  pub window_coverable : Coverable w
  window_coverable =
      record { tiles = grid_tiles w; inside = (every_true (tile_in_window w) (grid_tiles w)).1 grid_inside; once = grid_once }

  -- by the grid
  pub covered_by_grid : window_coverable.tiles ≡ grid_tiles w
  unfolding window_coverable
  covered_by_grid = refl

-- ---- worked

abbrev window : ℕ → ℕ → Window
window width height = record { width = width; height = height; lens = 1 }

-- The largest window that question 10 lets pass has 16 tiles.
pub largest_window : length (grid_tiles (window 1024 512)) ≡ 16
unfolding grid_tiles flatten
largest_window = refl

-- One of 300 by 130 has four: what is left is 44 columns and 2 rows.
pub four_tiles :
    grid_tiles (window 300 130) ≡ tile_by 0 0 256 128 ∷ tile_by 256 0 44 128 ∷ tile_by 0 128 256 2 ∷ tile_by 256 128 44 2 ∷ []
unfolding grid_tiles flatten
four_tiles = refl
