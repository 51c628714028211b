-- The cells of a picture: their places, their values, and which numbers stand among them.
use mathlib.Core.Path.{◌≡◌, sym, ap, ap₂, subst, ◌∙◌}
use mathlib.Core.Logic.{◌↔◌, ◌⊎◌, inl, inr}
use mathlib.Core.List.{List, map, Memᴰ}
use Prim.Native.Nat.{ℕ, ◌+◌, ◌*◌, ◌/◌, ◌%◌, ◌<◌}
use native.Mathlib.Nat.{zero-add, zero-mul, mul_comm, not-suc-le-zero, eq-zero-or-pos, mod-lt, div-add-mod', div-lt_iff_lt-mul}
use lib.Dec.{T, eqb, eqb→eq, eqb_refl}
use lib.ListN.{length, get_or, length-map}
use lib.Seq.{ext_get_or}
use lib.Arith.{digits_lt}
use Rattle.model.specs.Lists.{range, occurrences}
use Rattle.model.specs.Picture.{cells}
use Rattle.model.proofs.Tests.{tally_none}
use Rattle.model.proofs.Ranges.{get_d_member, of_map, of_flatten, range_length, range_at, of_range, rows_length, rows_at}

-- ---- places

-- cell (i, j) has a place
place_in : (width height i j : ℕ) → i < width → j < height → j * width + i < width * height
place_in width height i j h k = rw (mul_comm width height) (digits_lt k h)

-- place k is that of cell (i, j)
record Place (width height k i j : ℕ) : Type 0 where
  column : i < width
  row : j < height
  is : j * width + i ≡ k

-- and each place is a cell's
place_of : (width height k : ℕ) → k < width * height → Place width height k (k % width) (k / width)
place_of width height k h = go (eq-zero-or-pos width)
  where
    go : (width ≡ 0) ⊎ (0 < width) → Place width height k (k % width) (k / width)
    go (inl e) = absurd (not-suc-le-zero (rw (e, zero-mul) at h))
    go (inr p) =
        record {
          column = mod-lt k p;
          row = (div-lt_iff_lt-mul p).1 (rw (mul_comm width height) at h);
          is = div-add-mod' k width;
        }

-- ---- values

module _ (width height : ℕ) (value : ℕ → ℕ → ℕ) where
  abbrev row : ℕ → List ℕ
  row j = map (λ (i : ℕ). value i j) (range 0 width)

  row_length_lem : (j : ℕ) → length (row j) ≡ width
  row_length_lem j = length-map (range 0 width) (λ (i : ℕ). value i j) ∙ range_length 0 width

  pub cells_length : length (cells width height value) ≡ width * height
  unfolding cells
  cells_length = rows_length width row row_length_lem 0 height

  -- cell (i, j) stands at j × width + i
  pub cells_at : (i j : ℕ) → i < width → j < height → get_or (cells width height value) (j * width + i) 0 ≡ value i j
  unfolding cells
  cells_at i j h k =
      rows_at width row row_length_lem 0 height i j 0 h k
      ∙ range_at (λ (i : ℕ). value i (0 + j)) 0 width i 0 h
      ∙ ap₂ value (zero-add i) (zero-add j)

  cell_member : (i j : ℕ) → i < width → j < height → Memᴰ (value i j) (cells width height value)
  cell_member i j h k =
      let place : j * width + i < length (cells width height value) = rw cells_length (place_in width height i j h k) in
      rw (cells_at i j h k) at (get_d_member (cells width height value) (j * width + i) 0 place)

  -- what holds of each cell's value holds of every number in the list
  pub of_cells :
      (P : ℕ → Type 0) →
      ((i j : ℕ) → i < width → j < height → P (value i j)) →
      (x : ℕ) →
      Memᴰ x (cells width height value) →
      P x
  unfolding cells
  of_cells P f =
      of_flatten P (map row (range 0 height))
      (of_map Row row (range 0 height)
      (of_range (λ (j : ℕ). Row (row j)) 0 height
      (λ j k.
      of_map P (λ (i : ℕ). value i (0 + j)) (range 0 width)
      (of_range (λ (i : ℕ). P (value i (0 + j))) 0 width (λ i h. rw (zero-add i, zero-add j) (f i j h k))))))
    where
      Row : List ℕ → Type 0
      Row xs = (x : ℕ) → Memᴰ x xs → P x

  -- a number does not stand among the cells exactly where no cell holds it
  pub occurrences_none :
      (n : ℕ) →
      (occurrences n (cells width height value) ≡ 0)
      ↔ ((i j : ℕ) → i < width → j < height → value i j ≡ n → ⊥)
  occurrences_none n =
      let counted = tally_none (λ (m : ℕ). eqb m n) (cells width height value) in (
        λ e i j h k q. counted.0 e (value i j) (cell_member i j h k) (rw q (eqb_refl n)),
        λ f. counted.1 (of_cells (λ (m : ℕ). T (eqb m n) → ⊥) (λ i j h k t. f i j h k (eqb→eq (value i j) n t))),
      )

-- the lists are equal exactly where each cell's values are
pub cells_equal :
    (width height : ℕ) (f g : ℕ → ℕ → ℕ) →
    (cells width height f ≡ cells width height g) ↔ ((i j : ℕ) → i < width → j < height → f i j ≡ g i j)
cells_equal width height f g = (
  λ e i j h k.
      sym (cells_at width height f i j h k)
      ∙ ap (λ (xs : List ℕ). get_or xs (j * width + i) 0) e
      ∙ cells_at width height g i j h k,
  λ e.
      ext_get_or 0 (cells width height f) (cells width height g)
      (cells_length width height f ∙ sym (cells_length width height g))
      (λ k h. same e k (place_of width height k (rw cells_length at h))),
)
  where
    same :
        ((i j : ℕ) → i < width → j < height → f i j ≡ g i j) →
        (k : ℕ) {i j : ℕ} →
        Place width height k i j →
        get_or (cells width height f) k 0 ≡ get_or (cells width height g) k 0
    same e k {i} {j} p =
        subst (λ (m : ℕ). get_or (cells width height f) m 0 ≡ get_or (cells width height g) m 0) p.is
        (cells_at width height f i j p.column p.row
        ∙ e i j p.column p.row
        ∙ sym (cells_at width height g i j p.column p.row))
