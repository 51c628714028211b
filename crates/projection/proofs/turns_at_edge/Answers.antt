use mathlib.Core.Path.{refl, sym}
use native.Mathlib.Omega.{arith}
use Rattle.integer.proofs.Order.{<→≤}
use Rattle.integer.proofs.Comparison.{comparisons}
use Rattle.model.proofs.Loops.{none_passed, one_passed, refused, accepted}
use Rattle.projection.proofs.Projected.{projected_bounded, turns_projected_asked, turns_away, turns_in}
use Rattle.projection.proofs.turns_at_edge.Goals as goal

pub point_at-a-requires : goal.point_at-a-requires
point_at-a-requires c = omega (arith, c.requires.0)

pub overflow_add-k : goal.overflow_add-k
overflow_add-k c = omega (arith, c.requires.0)

pub wrapped-requires : goal.wrapped-requires
wrapped-requires c = omega (arith, c.requires.0)

pub point_at-b-requires : goal.point_at-b-requires
point_at-b-requires c = omega (arith, c.requires.0, c.wrapped.ensures.1)

pub asked_corners-others-requires : goal.asked_corners-others-requires
asked_corners-others-requires c = c.requires.0.three

pub loop-j-init : goal.loop-j-init
loop-j-init c = none_passed _ _

pub overflow_add-k-in-loop-j : goal.overflow_add-k-in-loop-j
overflow_add-k-in-loop-j c = omega (arith, c.requires, c.asked_corners-others.ensures.1)

pub overflow_add-k-in-loop-j-2 : goal.overflow_add-k-in-loop-j-2
overflow_add-k-in-loop-j-2 c = omega (arith, c.requires, c.asked_corners-others.ensures.1)

pub wrapped-requires-in-loop-j : goal.wrapped-requires-in-loop-j
wrapped-requires-in-loop-j c =
    omega (arith, c.requires, c.asked_corners-others.ensures.1)

pub point_at-c-requires : goal.point_at-c-requires
point_at-c-requires c =
    omega (arith, c.requires.0, c.wrapped-in-loop-j.ensures.1)

pub turn_along-requires : goal.turn_along-requires
turn_along-requires c = (
  c.requires.0.part_within,
  record {
    a_within = projected_bounded c.requires.0 c.requires.1 c.point_at-a.ensures;
    b_within = projected_bounded c.requires.0 c.wrapped.ensures.1 c.point_at-b.ensures;
    c_within = projected_bounded c.requires.0 c.wrapped-in-loop-j.ensures.1 c.point_at-c.ensures;
  },
)

pub returns-then-turn_along-le0 : goal.returns-then-turn_along-le0
returns-then-turn_along-le0 c =
    refused (turns_projected_asked c.requires.0 c.requires.1) (omega (arith, c.asked_corners-others.ensures.0))
    (sym (turns_away c.requires.0 c.requires.1 _ c.point_at-a.ensures
    c.wrapped.ensures.0 c.point_at-b.ensures c.wrapped-in-loop-j.ensures.0 c.point_at-c.ensures
    c.turn_along.ensures (search (comparisons, <→≤)))) refl

pub loop-j-preserved : goal.loop-j-preserved
loop-j-preserved c =
    one_passed c.loop-j.invariant (omega (arith, c.asked_corners-others.ensures.0))
    (sym (turns_in c.requires.0 c.requires.1 _ c.point_at-a.ensures
    c.wrapped.ensures.0 c.point_at-b.ensures c.wrapped-in-loop-j.ensures.0 c.point_at-c.ensures
    c.turn_along.ensures (search comparisons))) refl

pub returns : goal.returns
returns c =
    accepted (turns_projected_asked c.requires.0 c.requires.1) c.loop-j.invariant (omega (arith, c.asked_corners-others.ensures.0))
