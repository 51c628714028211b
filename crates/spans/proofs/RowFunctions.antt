-- An edge function in a row: its numbers change evenly, within the bounds that clipping asks for.
use mathlib.Core.Path.{◌≡◌, sym, subst₂}
use Prim.Native.Nat.{ℕ, ◌≤◌}
use lib.Dec.{lit≤, lit<}
use lib.IntN.{ℤ, pos}
use mir.Syntax.{w64}
use mir.Val.{to_z, of_z}
use Rattle.integer.specs.Magnitude.{Within}
use Rattle.integer.proofs.Magnitude.{within_more, within_sum, within_product, within_stored}
use Rattle.geometry.specs.declared.EdgeFunction.{EdgeFunction}
use Rattle.geometry.specs.Raster.{FunctionBounded}
use Rattle.spans.specs.Span.{number_at, Linear}

-- what passes through words stays as it is
pub words_linear : {slope start : ℤ} → Linear slope start → Linear (to_z w64 (of_z w64 slope)) (to_z w64 (of_z w64 start))
words_linear h = subst₂ Linear (sym (within_stored w64 h.slope_within (lit< tt))) (sym (within_stored w64 h.start_within (lit< tt))) h

pub words_number : {slope start : ℤ} → Linear slope start → (i : ℕ) → number_at (to_z w64 (of_z w64 slope)) (to_z w64 (of_z w64 start)) i ≡ number_at slope start i
words_number h i = rw (within_stored w64 h.slope_within (lit< tt), within_stored w64 h.start_within (lit< tt))

pub words_as : {slope start : ℤ} → Linear slope start → (says : ℤ → ℤ → Type 0) → says (to_z w64 (of_z w64 slope)) (to_z w64 (of_z w64 start)) → says slope start
words_as h says = subst₂ says (within_stored w64 h.slope_within (lit< tt)) (within_stored w64 h.start_within (lit< tt))

module _ {f : EdgeFunction} (h : FunctionBounded f) where
  -- down the rows
  pub function_linear : Linear f.drop f.start
  function_linear = record { slope_within = within_more h.drop_within (lit≤ tt); start_within = within_more h.start_within (lit≤ tt) }

  -- along row j
  pub row_linear : {j : ℕ} → j ≤ 1024 → Linear f.slope (number_at f.drop f.start j)
  row_linear {j} l =
      let w : Within 1024 (pos j) = record { within = l } in
      record {
        slope_within = within_more h.slope_within (lit≤ tt);
        start_within = within_more (within_sum (within_product h.drop_within w) h.start_within) (lit≤ tt);
      }
