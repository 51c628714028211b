-- Rows of one length, written to a list one after the other.
use mathlib.Core.Path.{◌≡◌, sym, ap, ap₂, subst, ◌∙◌}
use mathlib.Core.List.{List, ◌++◌, map, flatten, append-nil, append_assoc}
use Prim.Native.Nat.{ℕ, zero, suc, ◌+◌, ◌-◌, ◌*◌, ◌≤◌, ◌<◌}
use native.Mathlib.Nat.{add-zero, zero-add, zero-mul, mul-le-mul_right}
use native.Mathlib.Numerals.{add-one}
use native.Mathlib.Omega.{arith}
use lib.ListN.{length, take, drop, length-drop, length-append}
use lib.Seq.{drop-drop, take_at, take_all, length-take-le}
use borrow.Rule.Slice.PartMut.{put_mid}
use Rattle.model.specs.Lists.{range}
use Rattle.lists.specs.Writing.{WritingAsked, row_after_row}

-- ---- one row

-- a part of a list, from `start` on and `width` long, in the place that it was taken from
put_back : {A : Type 0} (start width : ℕ) (list row : List A) → put_mid start (start + width - start) list row ≡ take start list ++ (row ++ drop (start + width) list)
put_back start width list row =
    let e : start + width - start ≡ width = omega arith in
    rw (e, drop-drop width start list)

module _ {A : Type 0} (width j : ℕ) (row list : List A) (room : j * width + width ≤ length list) (e : length row ≡ width) where
  front : length (take (j * width) list) ≡ j * width
  front = length-take-le (j * width) list (omega arith)

  -- the row follows those before it
  through_row : take ((j + 1) * width) (put_mid (j * width) (j * width + width - j * width) list row) ≡ take (j * width) list ++ row
  through_row =
      let n : suc j * width ≡ j * width + width = omega arith in
      ap (take ((j + 1) * width)) (put_back (j * width) width list row ∙ sym (append_assoc (take (j * width) list) row (drop (j * width + width) list)))
      ∙ take_at (take (j * width) list ++ row) (drop (j * width + width) list) ((j + 1) * width)
      (length-append (take (j * width) list) row ∙ ap₂ ◌+◌ front e ∙ sym (rw (add-one j) n))

  as_long : length (put_mid (j * width) (j * width + width - j * width) list row) ≡ length list
  as_long = ap length (put_back (j * width) width list row) ∙ simp (length-append, length-drop) (omega (arith, front, e, room))

-- ---- all rows

pub last_row : {A : Type 0} (row : ℕ → List A) (a n : ℕ) → flatten (map row (range a (suc n))) ≡ flatten (map row (range a n)) ++ row (a + n)
unfolding flatten
last_row row a zero = append-nil (row a) ∙ ap row (sym (add-zero a))
last_row row a (suc n) =
    let e : suc a + n ≡ a + suc n = omega arith in
    ap (row a ++◌) (last_row row (suc a) n)
    ∙ sym (append_assoc (row a) (flatten (map row (range (suc a) n))) (row (suc a + n)))
    ∙ ap (λ (m : ℕ). (row a ++ flatten (map row (range (suc a) n))) ++ row m) e

-- the rows before row j are written
pub record WrittenUpTo {A : Type 0} (width height : ℕ) (row : ℕ → List A) (list : List A) (j : ℕ) : Type 0 where
  pub bound : j ≤ height
  pub long : length list ≡ height * width
  pub before_are : take (j * width) list ≡ row_after_row j row

module _ {A : Type 0} {width height : ℕ} {row : ℕ → List A} where
  pub writing_starts : {list : List A} → WritingAsked width height list → WrittenUpTo width height row list 0
  unfolding flatten
  writing_starts {list} asked =
      record { bound = omega arith; long = asked.room; before_are = ap (λ (n : ℕ). take n list) (zero-mul width) }

  module _ {list : List A} {j : ℕ} (inv : WrittenUpTo width height row list j) where
    pub row_fits : j < height → j * width + width ≤ length list
    row_fits h = omega (arith, inv.long, mul-le-mul_right width h)

    pub writing_goes :
        {written : List A} → j < height → length written ≡ width → written ≡ row j →
        WrittenUpTo width height row (put_mid (j * width) (j * width + width - j * width) list written) (j + 1)
    writing_goes {written} h f e =
        record {
          bound = omega arith;
          long = as_long width j written list (row_fits h) f ∙ inv.long;
          before_are =
              through_row width j written list (row_fits h) f
              ∙ ap₂ ◌++◌ inv.before_are e
              ∙ sym (rw (add-one j) (last_row row 0 j ∙ ap (λ (k : ℕ). row_after_row j row ++ row k) (zero-add j)));
        }

    pub writing_ends : height ≤ j → list ≡ row_after_row height row
    writing_ends h =
        let e : j ≡ height = omega (arith, inv.bound) in
        let right = subst (WrittenUpTo width height row list) e inv in
        sym (take_all (height * width) list (omega (arith, inv.long))) ∙ right.before_are
