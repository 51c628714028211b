-- A span that has every unlit column of a row, and one that has none, by the row's first two pairs.
use mathlib.Core.Path.{◌≡◌, sym, subst}
use mathlib.Core.Logic.{⊎_elim}
use mathlib.Core.Bool.{Bool, true, and-false}
use mathlib.Core.List.{List}
use Prim.Native.Nat.{ℕ, ◌+◌, ◌≤◌, ◌<◌}
use borrow.Author.Tests.{lt-leb, le-leb, lt-ltb, le-ltb}
use lib.Dec.{leb}
use lib.ListN.{get_or}
use native.Mathlib.Omega.{arith}
use Rattle.model.specs.Row.{row_of}
use Rattle.segments.specs.Segments.{Reads}
use Rattle.laying.specs.Laid.{Row}
use Rattle.segments.proofs.First.{first_inside, first_unlit_lem, only_unlit, between_unlit}
use Rattle.scanline.specs.Laying.{UnlitHull, LitGap}

module _ {width : ℕ} {row : List ℕ} (r : Row width row) where
  pub first_ends : get_or row 0 0 + get_or row 1 0 ≤ width
  first_ends = rw r.row_is (first_inside width r.fits r.unlit)

  from_first :
      (end : ℕ) → end ≤ width → ((unlit : ℕ → Bool) → row ≡ row_of width unlit → (i : ℕ) → i < width → unlit i ≡ true → i < end) →
      UnlitHull width row (record { first = get_or row 0 0; end = end })
  from_first end h before =
      record {
        all = λ unlit e i b t.
            let a : get_or row 0 0 ≤ i = rw e (first_unlit_lem width r.fits unlit i b t) in
            rw (le-leb (get_or row 0 0) i a, lt-ltb i end (before unlit e i b t));
        limited = h;
      }

  pub hull_on : UnlitHull width row (record { first = get_or row 0 0; end = width })
  hull_on = from_first width (omega arith) (λ unlit e i b t. b)

  -- the second pair is not used
  pub hull_only : get_or row 3 0 ≡ 0 → UnlitHull width row (record { first = get_or row 0 0; end = get_or row 0 0 + get_or row 1 0 })
  hull_only z =
      from_first (get_or row 0 0 + get_or row 1 0) first_ends
      (λ unlit e i b t. rw e (only_unlit width r.fits unlit i b t (rw e at z)))

  -- between the columns of the first pair and those of the second none is unlit
  pub gap_lit : LitGap width row (record { first = get_or row 0 0 + get_or row 1 0; end = get_or row 2 0 })
  gap_lit =
      record {
        none = λ unlit e i b t.
            ⊎_elim
            (λ (l : i < get_or row 0 0 + get_or row 1 0). rw (lt-leb (get_or row 0 0 + get_or row 1 0) i l))
            (λ (l : get_or row 2 0 ≤ i). rw (le-ltb i (get_or row 2 0) l) (and-false (leb (get_or row 0 0 + get_or row 1 0) i)))
            (rw e (between_unlit width r.fits unlit i b t));
      }

-- the same by what was read of the two pairs
pub gap_as :
    {width a m b n : ℕ} {row : List ℕ} → Reads row 0 a m → Reads row 1 b n →
    LitGap width row (record { first = get_or row 0 0 + get_or row 1 0; end = get_or row 2 0 }) → LitGap width row (record { first = a + m; end = b })
gap_as {width} {row = row} one two h =
    subst (LitGap width row) (λ i. record { first = sym one.offset_is i + sym one.count_is i; end = sym two.offset_is i }) h
