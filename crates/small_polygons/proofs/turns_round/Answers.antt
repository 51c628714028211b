use mathlib.Core.Path.{◌≡◌, sym, ◌∙◌}
use Prim.Native.Nat.{ℕ, ◌<◌}
use mathlib.Core.List.{List}
use lib.ListN.{length}
use native.Mathlib.Omega.{arith}
use Rattle.geometry.specs.declared.Vector.{Vector}
use Rattle.polygons.specs.Bounds.{FoundFlat}
use Rattle.small_polygons.specs.Few.{in_hand, edges_asked}
use borrow.Author.Tests.{not-true, not-false}
use Rattle.model.proofs.Loops.{refused, accepted}
use Rattle.polygons.proofs.Corners.{corner_bounded}
use Rattle.small_polygons.proofs.FewCorners.{asked_inside, corner_is, projection_bounded, each_turn, turning_starts, turning_goes, three_near, turn_is}
use Rattle.small_polygons.proofs.turns_round.Goals as goal

pub across-a-requires : goal.across-a-requires
across-a-requires g c = let b = c.requires.0.with_normal.bounded in corner_bounded b (omega (arith, b.three)) (sym (corner_is c.args.corners.now 0))

pub across-b-requires : goal.across-b-requires
across-b-requires g c = let b = c.requires.0.with_normal.bounded in corner_bounded b (omega (arith, b.three)) (sym (corner_is c.args.corners.now 1))

inside :
    (cs : List Vector) {n : Vector} {count m k : ℕ} → FoundFlat (in_hand cs) n → length cs ≡ count → m ≡ edges_asked count → k < m → (k < edges_asked count) × (k < count)
inside cs s e = asked_inside (omega (arith, e, s.with_normal.bounded.three))

pub second_after-requires : goal.second_after-requires
second_after-requires g c =
    let b = c.requires.0.with_normal.bounded in
    ((inside c.args.corners.now c.requires.0 c.told-corners c.edges_asked-k-end.ensures c.loop-k-test.true).1, omega (arith, b.three, c.told-corners), omega (arith, b.eight, c.told-corners))

pub loop-k-init : goal.loop-k-init
loop-k-init g c = turning_starts c.args.corners.now (omega (arith, c.requires.0.with_normal.bounded.three, c.told-corners)) c.across-a.ensures c.across-b.ensures

pub across-c-requires : goal.across-c-requires
across-c-requires g c =
    corner_bounded c.requires.0.with_normal.bounded (omega (arith, c.second_after.ensures.1, c.told-corners)) (sym (corner_is c.args.corners.now c.second_after.result))

pub turns-requires : goal.turns-requires
turns-requires g c =
    let b = projection_bounded c.args.corners.now c.requires.0 c.requires.1 c.first_axis-axis.ensures c.along.ensures (sym c.told-corners) in
    (b.part_within, three_near c.loop-k.invariant (inside c.args.corners.now c.requires.0 c.told-corners c.edges_asked-k-end.ensures c.loop-k-test.true).1 c.second_after.ensures.0 c.across-c.ensures b)

pub returns-then-not-turns : goal.returns-then-not-turns
returns-then-not-turns g c =
    refused (each_turn c.args.corners.now c.requires.0 c.requires.1 c.first_axis-axis.ensures c.along.ensures (sym c.told-corners)) (inside c.args.corners.now c.requires.0 c.told-corners c.edges_asked-k-end.ensures c.loop-k-test.true).0
    (c.turns.ensures ∙ turn_is c.loop-k.invariant (inside c.args.corners.now c.requires.0 c.told-corners c.edges_asked-k-end.ensures c.loop-k-test.true).1 c.second_after.ensures.0 c.across-c.ensures) (not-true _ c.if-not-turns.true-raw)

pub loop-k-preserved : goal.loop-k-preserved
loop-k-preserved g c =
    let h = inside c.args.corners.now c.requires.0 c.told-corners c.edges_asked-k-end.ensures c.loop-k-test.true in
    turning_goes c.loop-k.invariant h.1 c.second_after.ensures.0 c.across-c.ensures h.0 c.turns.ensures (not-false _ c.if-not-turns.false-raw)

pub returns : goal.returns
returns g c =
    accepted (each_turn c.args.corners.now c.requires.0 c.requires.1 c.first_axis-axis.ensures c.along.ensures (sym c.told-corners)) c.loop-k.invariant.passed (omega (arith, c.edges_asked-k-end.ensures))
