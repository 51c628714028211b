-- The rows of a picture, one after the other.
use mathlib.Core.Path.{◌≡◌, sym, ap, ap₂, ◌∙◌}
use mathlib.Core.List.{List, ◌++◌, map, flatten}
use Prim.Native.Nat.{ℕ, zero, suc, ◌+◌, ◌*◌, ◌<◌}
use native.Mathlib.Nat.{zero-add, zero-mul, mul_comm}
use native.Mathlib.Omega.{arith}
use lib.ListN.{length, take, get_or}
use lib.Seq.{take-add, take_all}
use Rattle.model.specs.Lists.{range}
use Rattle.model.proofs.Tables.{same_table}
use Rattle.geometry.specs.Machine.{vec_of}
use Rattle.geometry.specs.Raster.{line_at}
use Rattle.edges.specs.declared.Sight.{Sight}
use Rattle.rows.specs.declared.RowUnderWork.{RowUnderWork}
use Rattle.rows.specs.Span.{no_row}
use Rattle.lists.specs.Writing.{row_after_row}
use Rattle.lists.proofs.Written.{last_row}
use Rattle.conversion.specs.Canvas.{row_part}
use Rattle.traversal.specs.Walk.{walk_of, WholePainted}
use Rattle.painting.specs.Picture.{RowsPainted}

-- the front of a list, as so many rows
rows_front : (width : ℕ) (list : List ℕ) (j : ℕ) → take (j * width) list ≡ flatten (map (λ (m : ℕ). row_part width m list) (range 0 j))
unfolding flatten
rows_front width list zero = rw (zero-mul width)
rows_front width list (suc j) =
    let e : suc j * width ≡ j * width + width = omega arith in
    ap (λ (n : ℕ). take n list) e
    ∙ take-add (j * width) width list
    ∙ ap₂ ◌++◌ (rows_front width list j) (ap (λ (m : ℕ). row_part width m list) (sym (zero-add j)))
    ∙ sym (last_row (λ (m : ℕ). row_part width m list) 0 j)

-- tables of rows that agree are joined alike
joined_alike : (f g : ℕ → List ℕ) (n : ℕ) → ((j : ℕ) → j < n → f j ≡ g j) → flatten (map f (range 0 n)) ≡ flatten (map g (range 0 n))
joined_alike f g n same = ap flatten (same_table f g 0 0 n (λ k h. ap f (zero-add k) ∙ same k h ∙ ap g (sym (zero-add k))))

module _ {bytes : List ℕ} {s : Sight} {order : List ℕ} {rows : List RowUnderWork} {picture booked : List ℕ} (whole : WholePainted bytes s order rows picture booked) where
  pub rows_painted :
      {unlit lit : List ℕ} → length picture ≡ s.raster.width * s.raster.height → unlit ≡ row_after_row s.raster.height (λ (j : ℕ). (get_or rows j no_row).pairs) → lit ≡ row_after_row s.raster.height (λ (j : ℕ). (get_or rows j no_row).words) →
      RowsPainted (vec_of s.eye) (line_at s.raster) (walk_of bytes order) s.raster.width s.raster.height picture unlit lit
  rows_painted cells u m =
      let width : ℕ = s.raster.width in
      let height : ℕ = s.raster.height in
      record {
        picture_is =
            sym (take_all (height * width) picture (omega (arith, cells, mul_comm width height)))
            ∙ rows_front width picture height
            ∙ joined_alike _ _ height (λ j b. (whole.each j b).cells_are);
        unlit_is = u ∙ joined_alike _ _ height (λ j b. (whole.each j b).row_is);
        lit_is = m ∙ joined_alike _ _ height (λ j b. (whole.each j b).words_are);
      }
