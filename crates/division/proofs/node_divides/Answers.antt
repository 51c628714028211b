-- `division::node_divides` meets its contract.
use mathlib.Core.Path.{◌≡◌, refl, sym, ◌∙◌}
use mathlib.Core.Bool.{true, false}
use mathlib.Core.List.{List}
use Prim.Native.Nat.{ℕ}
use borrow.Author.Rules.{rules}
use Rattle.boxes.specs.declared.Extent.{Extent}
use Rattle.model.specs.Lists.{every}
use Rattle.division.specs.Division.{Against, NodeAsked}
use Rattle.halfspaces.specs.Sides.{held, PlaneBounded}
use Rattle.halfspaces.specs.declared.planes.Plane.{Plane}
use Rattle.halfspaces.specs.declared.planes.Sides.{Sides}
use Rattle.format.specs.declared.records.Node.{Node}
use Rattle.format.specs.declared.layout.Layout.{Layout}
use Rattle.model.proofs.Loops.{first_of_three, second_of_three, third_decides}
use Rattle.division.proofs.Branches.{patches_below, node_divides_lem}
use Rattle.division.proofs.SettledBelow.{settled_held}
use Rattle.division.proofs.node_divides.Goals as goal
use Rattle.division.proofs.node_divides.Goals.{then-run_held+then-settled, then-run_held+else-settled, else-run_held}

-- a node asked, with its plane
against :
    {bytes : List ℕ} {l : Layout} {n : Node} {boxes : List Extent} {r : Plane} →
    NodeAsked bytes l n boxes → PlaneBounded r → Against bytes l r boxes
against h b = record { plane_bounded = b; extents = h.extents }

abbrev front : Sides
front = record { negative = false; positive = true }

abbrev back : Sides
back = record { negative = true; positive = false }

pub returns-then-settled-2 : goal.returns-then-settled-2
returns-then-settled-2 c =
    let in_front : (c.run_held.result ≡ true) × (every (held c.plane_of-plane.result front) (patches_below c.args.scene.now.bytes.now c.args.n.positive) ≡ true) =
    elim c.if-run_held.branch [
      | then-run_held+then-settled w ↦ (w.if-run_held.true, sym (settled_held c.args.scene.now.checked (against c.requires c.plane_of-plane.ensures.bounded) front w.settled.ensures w.if-settled.true))
      | then-run_held+else-settled w ↦ (w.if-run_held.true, sym w.subtree_held.ensures ∙ sym w.value-is ∙ c.if-subtree_held.true)
      | else-run_held w ↦ absurd (search (rules, w.value-is))
    ]
    in
    third_decides (node_divides_lem c.args.scene.now.bytes.now c.args.n c.plane_of-plane.ensures) c.run_held.ensures in_front.0 refl in_front.1
    (c.if-settled-2.true ∙ settled_held c.args.scene.now.checked (against c.requires c.plane_of-plane.ensures.bounded) back c.settled-then-subtree_held.ensures c.if-settled-2.true)

pub returns-else-settled-2 : goal.returns-else-settled-2
returns-else-settled-2 c =
    let in_front : (c.run_held.result ≡ true) × (every (held c.plane_of-plane.result front) (patches_below c.args.scene.now.bytes.now c.args.n.positive) ≡ true) =
    elim c.if-run_held.branch [
      | then-run_held+then-settled w ↦ (w.if-run_held.true, sym (settled_held c.args.scene.now.checked (against c.requires c.plane_of-plane.ensures.bounded) front w.settled.ensures w.if-settled.true))
      | then-run_held+else-settled w ↦ (w.if-run_held.true, sym w.subtree_held.ensures ∙ sym w.value-is ∙ c.if-subtree_held.true)
      | else-run_held w ↦ absurd (search (rules, w.value-is))
    ]
    in
    third_decides (node_divides_lem c.args.scene.now.bytes.now c.args.n c.plane_of-plane.ensures) c.run_held.ensures in_front.0 refl in_front.1 c.subtree_held-else-settled-2.ensures

pub returns-else-subtree_held : goal.returns-else-subtree_held
returns-else-subtree_held c =
    c.if-subtree_held.false
    ∙ elim c.if-run_held.branch [
      | then-run_held+then-settled w ↦ absurd (search (rules, w.value-is))
      | then-run_held+else-settled w ↦ second_of_three (node_divides_lem c.args.scene.now.bytes.now c.args.n c.plane_of-plane.ensures) w.subtree_held.ensures (sym w.value-is ∙ c.if-subtree_held.false)
      | else-run_held w ↦ first_of_three (node_divides_lem c.args.scene.now.bytes.now c.args.n c.plane_of-plane.ensures) c.run_held.ensures w.if-run_held.false
    ]
