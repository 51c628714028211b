use native.Mathlib.Omega.{arith}
use borrow.Author.Tests.{not-true, not-false}
use Rattle.model.proofs.Loops.{none_passed, one_passed, refused, accepted}
use Rattle.projection.proofs.Projected.{convex_projected_asked}
use Rattle.projection.proofs.convex_along.Goals as goal

pub loop-k-init : goal.loop-k-init
loop-k-init c = none_passed _ _

pub returns-then-not-turns_at_edge : goal.returns-then-not-turns_at_edge
returns-then-not-turns_at_edge c =
    refused (convex_projected_asked c.requires) (omega arith) c.turns_at_edge.ensures (not-true _ c.if-not-turns_at_edge.true-raw)

pub loop-k-preserved : goal.loop-k-preserved
loop-k-preserved c =
    one_passed c.loop-k.invariant (omega arith) c.turns_at_edge.ensures (not-false _ c.if-not-turns_at_edge.false-raw)

pub returns : goal.returns
returns c = accepted (convex_projected_asked c.requires) c.loop-k.invariant (omega arith)
