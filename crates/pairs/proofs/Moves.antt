-- What a pair of a row holds.
use mathlib.Core.Path.{◌≡◌, sym, ap}
use mathlib.Core.List.{List, [], ◌∷◌, ◌++◌, append_assoc}
use Prim.Native.Nat.{ℕ, suc, ◌+◌, ◌*◌, ◌-◌, ◌≤◌}
use native.Mathlib.Omega.{arith}
use lib.ListN.{length}
use Rattle.model.specs.Row.{Segment, numbers_of}
use Rattle.segments.specs.Segments.{segment_at, Reads}
use Rattle.segments.proofs.Segments.{segment_path}
use Rattle.segments.proofs.Rows.{zeros}
use Rattle.segments.proofs.Numbers.{number_at_lem}

pub two_zeros : (n : ℕ) → 2 ≤ n → zeros n ≡ 0 ∷ 0 ∷ zeros (n - 2)
two_zeros n h = let e : n ≡ suc (suc (n - 2)) = omega arith in ap zeros e

pub further : {A : Type 0} (xs : List A) (a : A) (ys : List A) → xs ++ a ∷ ys ≡ (xs ++ a ∷ []) ++ ys
further xs a ys = sym (append_assoc xs (a ∷ []) ys)

pub read_here :
    (passed : List Segment) (s : Segment) (ys : List ℕ) (k : ℕ) → length passed ≡ k →
    segment_at (numbers_of passed ++ s.offset ∷ s.count ∷ ys) k ≡ s
read_here passed s ys k e =
    let tail : List ℕ = s.offset ∷ s.count ∷ ys in
    segment_path (number_at_lem passed tail (2 * k) 0 (omega arith)) (number_at_lem passed tail (2 * k + 1) 1 (omega arith))

pub read_segment :
    {row : List ℕ} {k offset count : ℕ} → Reads row k offset count →
    segment_at row k ≡ record { offset = offset; count = count }
read_segment r = segment_path (sym r.offset_is) (sym r.count_is)
