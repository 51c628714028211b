-- The row of a set of unlit columns: 256 numbers, which say the set and are said by it.
use mathlib.Core.Path.{◌≡◌, refl, sym, ap, ◌∙◌}
use mathlib.Core.Bool.{Bool, ◌&&◌}
use mathlib.Core.List.{List, [], ◌∷◌, ◌++◌}
use Prim.Native.Nat.{ℕ, zero, suc, ◌+◌, ◌*◌, ◌-◌, ◌≤◌, ◌<◌}
use native.Mathlib.Omega.{arith}
use lib.Dec.{ltb}
use borrow.Author.Tests.{lt-ltb}
use lib.ListN.{length, take, replicate, length-append, length-take, length-replicate, replicate-append-replicate}
use lib.Seq.{take-append-add, take_at}
use Rattle.model.specs.Row.{Segment, segments, numbers_of, row_of, in_pairs, used_pairs}
use Rattle.segments.specs.Segments.{in_segment, Ordered, none, more, row_from}
use Rattle.segments.proofs.Segments.{member}
use Rattle.segments.proofs.Sets.{segments_ordered, segments_columns, segments_congr, few}

pub numbers_length : (ss : List Segment) → length (numbers_of ss) ≡ 2 * length ss
unfolding numbers_of
numbers_length [] = refl
numbers_length (s ∷ ss) = rw (numbers_length ss) (omega arith)

pub numbers_append : (ss ts : List Segment) → numbers_of (ss ++ ts) ≡ numbers_of ss ++ numbers_of ts
unfolding numbers_of
numbers_append [] ts = refl
numbers_append (s ∷ ss) ts = rw (numbers_append ss ts)

abbrev pub zeros : ℕ → List ℕ
zeros n = replicate n 0

pub take_zeros : (n m : ℕ) → n ≤ m → take n (zeros m) ≡ zeros n
take_zeros n m h =
    let e : m ≡ n + (m - n) = omega arith in
    ap (λ (k : ℕ). take n (zeros k)) e ∙ rw (← replicate-append-replicate n (m - n) (ℕ.zero)) (take_at (zeros n) (zeros (m - n)) n (length-replicate n 0))

-- numbers that are filled up with zeros
filled_up : (m : ℕ) (xs : List ℕ) → length xs ≤ m → take m (xs ++ zeros m) ≡ xs ++ zeros (m - length xs)
filled_up m xs h =
    let e : m ≡ length xs + (m - length xs) = omega arith in
    ap (λ (k : ℕ). take k (xs ++ zeros m)) e ∙ take-append-add xs (zeros m) (m - length xs) ∙ rw (take_zeros (m - length xs) m (omega arith))

filled_length : (m : ℕ) (xs : List ℕ) → length (take m (xs ++ zeros m)) ≡ m
filled_length m xs = simp (length-take, length-append, length-replicate) (omega arith)

row_from_length : (ss : List Segment) → length (row_from ss) ≡ 256
unfolding row_from
row_from_length ss = filled_length 256 (numbers_of ss)

pub row_from_parts : (ss : List Segment) → length ss ≤ 128 → row_from ss ≡ numbers_of ss ++ zeros (256 - 2 * length ss)
unfolding row_from
row_from_parts ss h = filled_up 256 (numbers_of ss) (omega (arith, numbers_length ss)) ∙ rw (numbers_length ss)

-- the used pairs are those of the segments, none of which is empty
used_zeros : (n : ℕ) → used_pairs (zeros n) ≡ []
unfolding used_pairs
used_zeros zero = refl
used_zeros (suc zero) = refl
used_zeros (suc (suc n)) = refl

pub used_pair : (offset count : ℕ) (row : List ℕ) → 0 < count → used_pairs (offset ∷ count ∷ row) ≡ offset ∷ count ∷ used_pairs row
unfolding used_pairs
used_pair offset zero row h = absurd (omega arith)
used_pair offset (suc count) row h = refl

used_filled : {width low : ℕ} {ss : List Segment} (n : ℕ) → Ordered width low ss → used_pairs (numbers_of ss ++ zeros n) ≡ numbers_of ss
unfolding numbers_of
used_filled n none = used_zeros n
used_filled n (more low s {ss = rest} p o) =
    used_pair s.offset s.count (numbers_of rest ++ zeros n) p.filled ∙ rw (used_filled n o)

pairs_member : (ss : List Segment) (i : ℕ) → in_pairs (numbers_of ss) i ≡ member ss i
unfolding in_pairs numbers_of member in_segment
pairs_member [] i = refl
pairs_member (s ∷ ss) i = rw (pairs_member ss i)

module _ (width : ℕ) (fits : width ≤ 256) (unlit : ℕ → Bool) where
  -- Document 02, F-6: "a row never needs more than 128 stretches": whichever columns are unlit.
  pub segments_few : length (segments width unlit) ≤ 128
  segments_few = omega (arith, few (segments_ordered width unlit))

  pub row_parts : row_of width unlit ≡ numbers_of (segments width unlit) ++ zeros (256 - 2 * length (segments width unlit))
  unfolding row_of row_from
  row_parts = row_from_parts (segments width unlit) segments_few

  row_used : used_pairs (row_of width unlit) ≡ numbers_of (segments width unlit)
  row_used = ap used_pairs row_parts ∙ used_filled (256 - 2 * length (segments width unlit)) (segments_ordered width unlit)

  -- the row describes the set: its columns are those of the used pairs
  pub row_describes : (i : ℕ) → in_pairs (used_pairs (row_of width unlit)) i ≡ (ltb i width && unlit i)
  row_describes i = rw row_used (pairs_member (segments width unlit) i ∙ segments_columns width unlit i)

pub row_length_lem : (width : ℕ) (unlit : ℕ → Bool) → length (row_of width unlit) ≡ 256
unfolding row_of row_from
row_length_lem width unlit = row_from_length (segments width unlit)

-- the row depends on the columns below the width alone, and says which they are
pub row_congr : (width : ℕ) (u v : ℕ → Bool) → ((i : ℕ) → i < width → u i ≡ v i) → row_of width u ≡ row_of width v
unfolding row_of
row_congr width u v same = rw (segments_congr width u v same)

pub row_determines : (width : ℕ) → width ≤ 256 → (u v : ℕ → Bool) → row_of width u ≡ row_of width v → (i : ℕ) → i < width → u i ≡ v i
row_determines width fits u v e i h =
    let both : (ltb i width && u i) ≡ (ltb i width && v i) = sym (row_describes width fits u i) ∙ rw e (row_describes width fits v i) in
    rw (lt-ltb i width h) at both
