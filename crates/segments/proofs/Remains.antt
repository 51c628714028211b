-- What a span leaves of a segment, by where the two lie; and of those after one that ends beyond the span.
use mathlib.Core.Path.{◌≡◌, refl, ap}
use mathlib.Core.Logic.{◌⊎◌, inl, inr}
use mathlib.Core.Bool.{Bool, true, false}
use mathlib.Core.List.{List, [], ◌∷◌}
use Prim.Native.Nat.{ℕ, suc, ◌+◌, ◌-◌, ◌≤◌, ◌<◌}
use native.Mathlib.Omega.{arith}
use lib.Dec.{ltb}
use lib.ListN.{length, length-append}
use borrow.Author.Tests.{lt-ltb, le-ltb}
use Rattle.model.specs.Row.{Segment}
use Rattle.segments.specs.Columns.{piece, remains_before, remains_after, remains}
use Rattle.segments.specs.Segments.{Ordered, none, more}
use Rattle.segments.proofs.Segments.{segment_path}
use Rattle.segments.proofs.Cut.{cut}

pub one : {s t : Segment} → s.offset ≡ t.offset → s.count ≡ t.count → s ∷ [] ≡ t ∷ []
one p q = ap (λ (x : Segment). x ∷ []) (segment_path p q)

module _ (first last : ℕ) (s : Segment) where
  pub before_some :
      s.offset < first → first < s.offset + s.count →
      remains_before first s ≡ record { offset = s.offset; count = first - s.offset } ∷ []
  unfolding remains_before
  before_some h l = rw (lt-ltb s.offset first h) (one refl (omega arith))

  pub before_none : first ≤ s.offset → remains_before first s ≡ []
  unfolding remains_before
  before_none h = rw (le-ltb s.offset first h)

  before_all : 0 < s.count → s.offset + s.count ≤ first → remains_before first s ≡ s ∷ []
  unfolding remains_before
  before_all h l = rw (lt-ltb s.offset first (omega arith)) (one refl (omega arith))

  pub after_some :
      s.offset ≤ last → suc last < s.offset + s.count →
      remains_after last s ≡ record { offset = last + 1; count = s.offset + s.count - (last + 1) } ∷ []
  unfolding remains_after
  after_some h l = rw (lt-ltb (suc last) (s.offset + s.count) l) (one (omega arith) (omega arith))

  pub after_none : s.offset + s.count ≤ suc last → remains_after last s ≡ []
  unfolding remains_after
  after_none h = rw (le-ltb (suc last) (s.offset + s.count) h)

  after_all : 0 < s.count → last < s.offset → remains_after last s ≡ s ∷ []
  unfolding remains_after
  after_all h l = rw (lt-ltb (suc last) (s.offset + s.count) (omega arith)) (one (omega arith) (omega arith))

  -- a span and a segment that share no column
  pub apart : first ≤ last → 0 < s.count → (s.offset + s.count ≤ first) ⊎ (last < s.offset) → remains first last s ≡ s ∷ []
  unfolding remains
  apart h f (inl e) = rw (before_all f e, after_none (omega arith))
  apart h f (inr e) = rw (before_none (omega arith), after_all f e)

-- ---- how many

one_piece : (b : Bool) (s : Segment) → length (piece b s) ≤ 1
one_piece true s = omega arith
one_piece false s = omega arith

pub one_before : (first : ℕ) (s : Segment) → length (remains_before first s) ≤ 1
unfolding remains_before
one_before first s = one_piece (ltb s.offset first) _

one_after : (last : ℕ) (s : Segment) → length (remains_after last s) ≤ 1
unfolding remains_after
one_after last s = one_piece (ltb (suc last) (s.offset + s.count)) _

pub two_remain : (first last : ℕ) (s : Segment) → length (remains first last s) ≤ 2
unfolding remains
two_remain first last s =
    omega (arith, length-append (remains_before first s) (remains_after last s), one_before first s, one_after last s)

-- ---- the segments after one that ends beyond the span

pub cut_rest : {width low : ℕ} (first last : ℕ) {ss : List Segment} → first ≤ last → last < low → Ordered width low ss → cut first last ss ≡ ss
unfolding cut
cut_rest first last h l none = refl
cut_rest first last h l (more low s p o) = rw (apart first last s h p.filled (inr (omega arith)), cut_rest first last h (omega arith) o)
