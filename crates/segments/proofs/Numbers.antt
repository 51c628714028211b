-- The numbers of a row: those of its segments, and then zeros. One segment after the other is moved down, or up.
use mathlib.Core.Path.{◌≡◌, refl, sym, ap, ◌∙◌}
use mathlib.Core.List.{List, [], ◌∷◌, ◌++◌, append_assoc}
use Prim.Native.Nat.{ℕ, suc, ◌+◌, ◌*◌, ◌-◌, ◌≤◌}
use native.Mathlib.Omega.{arith}
use lib.ListN.{length, get_or, set, length-append}
use lib.Seq.{get_or-append-add, set_at}
use Rattle.model.specs.Row.{Segment, numbers_of}
use Rattle.segments.specs.Segments.{row_from, written}
use Rattle.segments.proofs.Rows.{zeros, numbers_length, numbers_append, row_from_parts}

-- the segments `passed` and `rest` and then n zeros make up the row
pub record Shape (passed rest : List Segment) (n : ℕ) (row : List ℕ) : Type 0 where
  pub size : 2 * (length passed + length rest) + n ≡ 256
  pub row_is : row ≡ numbers_of passed ++ (numbers_of rest ++ zeros n)

pub shaped :
    (passed rest : List Segment) → length passed + length rest ≤ 128 →
    Shape passed rest (256 - 2 * (length passed + length rest)) (row_from (passed ++ rest))
shaped passed rest h =
    let e : length (passed ++ rest) ≡ length passed + length rest = length-append passed rest in
    record {
      size = omega arith;
      row_is = row_from_parts (passed ++ rest) (omega arith) ∙ rw (e, numbers_append passed rest, append_assoc);
    }

pub shape_row : {passed rest : List Segment} {n : ℕ} {row : List ℕ} → Shape passed rest n row → row ≡ row_from (passed ++ rest)
shape_row {passed} {rest} {n} sh =
    let e : 256 - 2 * (length passed + length rest) ≡ n = omega arith in
    sh.row_is ∙ sym (rw e at (shaped passed rest (omega arith)).row_is)

-- a number after the first ones
pub number_after : (xs ys : List ℕ) (m j : ℕ) → m ≡ length xs + j → get_or (xs ++ ys) m 0 ≡ get_or ys j 0
number_after xs ys m j e = rw e (get_or-append-add xs ys j 0)

pub number_at_lem :
    (passed : List Segment) (ys : List ℕ) (m j : ℕ) → m ≡ 2 * length passed + j →
    get_or (numbers_of passed ++ ys) m 0 ≡ get_or ys j 0
number_at_lem passed ys m j e = number_after (numbers_of passed) ys m j (omega (arith, numbers_length passed))

set_second : (xs : List ℕ) (a y b : ℕ) (ys : List ℕ) → set (xs ++ a ∷ y ∷ ys) (suc (length xs)) b ≡ xs ++ a ∷ b ∷ ys
set_second [] a y b ys = refl
set_second (x ∷ xs) a y b ys = ap (λ (l : List ℕ). x ∷ l) (set_second xs a y b ys)

pub pair_set :
    (xs : List ℕ) (x y : ℕ) (ys : List ℕ) (k : ℕ) (s : Segment) → length xs ≡ 2 * k →
    written (xs ++ x ∷ y ∷ ys) k s ≡ xs ++ s.offset ∷ s.count ∷ ys
pair_set xs x y ys k s l =
    let m : 2 * k + 1 ≡ suc (length xs) = omega arith in
    rw (set_at xs x (y ∷ ys) s.offset (2 * k) l, m) (set_second xs s.offset y s.count ys)

pub pair_written :
    (passed : List Segment) (x y : ℕ) (ys : List ℕ) (k : ℕ) (s : Segment) → length passed ≡ k →
    written (numbers_of passed ++ x ∷ y ∷ ys) k s ≡ numbers_of passed ++ s.offset ∷ s.count ∷ ys
pair_written passed x y ys k s e = pair_set (numbers_of passed) x y ys k s (omega (arith, numbers_length passed))
