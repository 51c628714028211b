-- `reach::clip_sides` meets its contract: a number and its opposite, each within the bounds that clipping asks for.
use lib.IntN.{ℤ}
use mir.Syntax.{w64}
use Rattle.integer.proofs.Machine.{machine, no_overflow, magnitude}
use Rattle.reach.proofs.CornerSides.{opposite_clipped}
use Rattle.spans.specs.Span.{Clipped}
use Rattle.spans.proofs.RowFunctions.{words_as}
use Rattle.reach.proofs.clip_sides.Goals as goal

pub overflow_sub-slope : goal.overflow_sub-slope
overflow_sub-slope c = no_overflow (search machine depth 40 fits 20000, tt)

pub overflow_sub-start : goal.overflow_sub-start
overflow_sub-start c = no_overflow (search machine depth 40 fits 20000, tt)

pub clip_any-requires-2 : goal.clip_any-requires-2
clip_any-requires-2 c = (
  c.requires.0.behind_shaped,
  record {
    slope_within = magnitude w64 (search machine depth 40 fits 20000, tt, tt);
    start_within = magnitude w64 (search machine depth 40 fits 20000, tt, tt);
  },
)

pub returns : goal.returns
returns c =
    let h = c.requires.1 in
    record { ahead_clipped = words_as h (λ (x y : ℤ). Clipped x y c.args.sides.ahead c.clip_any.result) c.clip_any.ensures; behind_clipped = opposite_clipped h c.clip_any-2.ensures }
