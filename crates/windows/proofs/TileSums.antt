-- Sums over the cells of tiles. "The shared reasoning is done for any tile place and size" (document 02, F-9): no limit of question 10 stands here.
use mathlib.Core.Path.{◌≡◌, sym, ap, fun_ext, ◌∙◌}
use mathlib.Core.Bool.{Bool, true, false, ◌&&◌, and-true, and-false}
use mathlib.Core.List.{List, [], ◌∷◌, ◌++◌, sum, Memᴰ}
use Prim.Native.Nat.{ℕ, ◌+◌, ◌*◌, ◌-◌, ◌≤◌, ◌<◌}
use native.Mathlib.Nat.{zero-add, one-mul}
use native.Mathlib.Omega.{arith}
use lib.Dec.{leb, ltb}
use borrow.Author.Tests.{lt-ltb, le-ltb, le-leb, lt-leb}
use Rattle.model.specs.Lists.{range, tally}
use Rattle.model.specs.View.{Window, Tile, holds}
use Rattle.model.specs.Booking.{cells_where}
use Rattle.model.proofs.Ranges.{in_range, range_append}
use Rattle.model.proofs.Tables.{same_table}
use Rattle.model.proofs.Totals.{total, total_cong, total_zero, total_same, only}
use Rattle.model.proofs.PanelSums.{over_cells, where_total, cells_swap}
use Rattle.model.proofs.CallLimits.{TileInside}

-- ---- a part of the numbers below a bound

-- a sum over two lists, one after the other
total_append : {A : Type 0} (f : A → ℕ) (s t : List A) → total f (s ++ t) ≡ total f s + total f t
unfolding total
total_append f [] t = sym (zero-add _)
total_append f (a ∷ s) t = let h : total f (s ++ t) ≡ total f s + total f t = total_append f s t in omega arith

-- a sum over a range goes by the values there
pub over_range :
    (f g : ℕ → ℕ) (a n : ℕ) → ((k : ℕ) → a ≤ k → k < a + n → f k ≡ g k) → total f (range a n) ≡ total g (range a n)
over_range f g a n same = total_cong f g (range a n) (λ k m. let b = (in_range a n k).0 m in same k b.0 b.1)

-- the sum over all numbers in which only the `count` from `first` on count is the sum over these
module _ (first count all : ℕ) (inside : first + count ≤ all) (f : ℕ → ℕ) where
  abbrev part : ℕ → ℕ
  part x = only (leb first x && ltb x (first + count)) (f x)

  abbrev rest : ℕ
  rest = all - (first + count)

  -- those before them count nothing, as do those after; and they themselves count in full
  none_before : total part (range 0 first) ≡ 0
  none_before = over_range part (λ (x : ℕ). 0) 0 first (λ x h k. rw (lt-leb first x (omega arith))) ∙ total_zero (range 0 first)

  all_within : total part (range first count) ≡ total (λ (i : ℕ). f (first + i)) (range 0 count)
  unfolding total
  all_within =
      over_range part f first count (λ x h k. rw (le-leb first x h, lt-ltb x (first + count) k))
      ∙ ap (sum ◌+◌ 0) (same_table f (λ (i : ℕ). f (first + i)) first 0 count (λ i h. ap (λ (k : ℕ). f (first + k)) (sym (zero-add i))))

  none_after : total part (range (first + count) rest) ≡ 0
  none_after =
      over_range part (λ (x : ℕ). 0) (first + count) rest (λ x h k. rw (le-ltb x (first + count) h, and-false (leb first x)))
      ∙ total_zero (range (first + count) rest)

  -- all three together
  total_part : total part (range 0 all) ≡ total (λ (i : ℕ). f (first + i)) (range 0 count)
  total_part =
      ap (λ (n : ℕ). total part (range 0 n)) cut
      ∙ split 0 (first + count) rest
      ∙ omega (arith, split 0 first count, none_before, from (zero-add first) count, all_within, from (zero-add (first + count)) rest, none_after)
    where
      cut : all ≡ (first + count) + rest
      cut = omega arith

      split : (a b c : ℕ) → total part (range a (b + c)) ≡ total part (range a b) + total part (range (a + b) c)
      split a b c = ap (total part) (range_append a b c) ∙ total_append part (range a b) (range (a + b) c)

      from : {a b : ℕ} → a ≡ b → (n : ℕ) → total part (range a n) ≡ total part (range b n)
      from e n = ap (λ (a : ℕ). total part (range a n)) e

-- ---- a tile's cells among the window's

-- the sum over the window's cells in which only those of the tile count is the sum over the tile's cells
module _ (w : Window) (t : Tile) (inside : TileInside w t) (f : ℕ → ℕ → ℕ) where
  abbrev in_columns : ℕ → Bool
  in_columns x = leb t.left x && ltb x (t.left + t.width)

  abbrev in_rows : ℕ → Bool
  in_rows y = leb t.top y && ltb y (t.top + t.height)

  -- row y of the window: the tile's part of it, or nothing
  tile_row :
      (y : ℕ) (b : Bool) →
      total (λ (x : ℕ). only (in_columns x && b) (f x y)) (range 0 w.width)
      ≡ only b (total (λ (i : ℕ). f (t.left + i) y) (range 0 t.width))
  tile_row y true =
      ap (λ (g : ℕ → ℕ). total g (range 0 w.width)) (fun_ext (λ x. ap (λ (c : Bool). only c (f x y)) (and-true (in_columns x))))
      ∙ total_part t.left t.width w.width inside.columns (λ (x : ℕ). f x y)
  tile_row y false =
      ap (λ (g : ℕ → ℕ). total g (range 0 w.width)) (fun_ext (λ x. ap (λ (c : Bool). only c (f x y)) (and-false (in_columns x))))
      ∙ total_zero (range 0 w.width)

  -- all rows
  tile_sum :
      over_cells w.width w.height (λ (x y : ℕ). only (holds t x y) (f x y))
      ≡ over_cells t.width t.height (λ (i j : ℕ). f (t.left + i) (t.top + j))
  tile_sum =
      ap (λ (g : ℕ → ℕ). total g (range 0 w.height)) (fun_ext (λ y. tile_row y (in_rows y)))
      ∙ total_part t.top t.height w.height inside.rows (λ (y : ℕ). total (λ (i : ℕ). f (t.left + i) y) (range 0 t.width))

-- ---- all tiles that cover the window once

module _
    {A : Type 0} (tile : A → Tile) (w : Window) (l : List A)
    (inside : (a : A) → Memᴰ a l → TileInside w (tile a))
    (once : (x y : ℕ) → x < w.width → y < w.height → tally (λ (a : A). holds (tile a) x y) l ≡ 1)
  where
    -- a number for each cell, added over each tile's cells and over all tiles, is the sum over the window's cells
    tiles_sum :
        (f : ℕ → ℕ → ℕ) →
        total (λ (a : A). over_cells (tile a).width (tile a).height (λ (i j : ℕ). f ((tile a).left + i) ((tile a).top + j))) l
        ≡ over_cells w.width w.height f
    tiles_sum f =
        total_cong _ _ l (λ a m. sym (tile_sum w (tile a) (inside a m) f))
        ∙ sym (cells_swap w.width w.height (λ (x y : ℕ) (a : A). only (holds (tile a) x y) (f x y)) l)
        ∙ over_range _ _ 0 w.height (λ y h k. over_range _ _ 0 w.width (λ x i j. in_one x y (omega arith) (omega arith)))
      where
        in_one : (x y : ℕ) → x < w.width → y < w.height → total (λ (a : A). only (holds (tile a) x y) (f x y)) l ≡ f x y
        in_one x y h k =
            total_same (λ (a : A). holds (tile a) x y) (f x y) l ∙ ap (λ (n : ℕ). n * f x y) (once x y h k) ∙ one-mul (f x y)

    -- the tiles' cells that pass a test are together the window's that do
    pub tiles_where :
        (test : ℕ → ℕ → Bool) →
        total (λ (a : A). cells_where (tile a).width (tile a).height (λ (i j : ℕ). test ((tile a).left + i) ((tile a).top + j))) l
        ≡ cells_where w.width w.height test
    tiles_where test =
        total_cong _ _ l (λ a m. where_total (tile a).width (tile a).height (λ (i j : ℕ). test ((tile a).left + i) ((tile a).top + j)))
        ∙ tiles_sum (λ (x y : ℕ). only (test x y) 1)
        ∙ sym (where_total w.width w.height test)
