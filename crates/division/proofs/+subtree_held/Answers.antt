-- `division::subtree_held` meets its contract.
use mathlib.Core.Path.{◌≡◌, refl, sym, ◌∙◌}
use mathlib.Core.Bool.{true}
use borrow.Author.Rules.{rules}
use Rattle.model.specs.Lists.{every}
use Rattle.halfspaces.specs.Sides.{held}
use Rattle.model.proofs.Loops.{first_of_three, second_of_three, third_decides}
use Rattle.division.proofs.Branches.{patches_below, every_node_lem}
use Rattle.division.proofs.SettledBelow.{settled_held}
use Rattle.division.proofs.+subtree_held.Goals as goal
use Rattle.division.proofs.+subtree_held.Goals.{then-run_held+then-settled, then-run_held+else-settled, else-run_held}

pub returns-then-settled-2 : goal.returns-then-settled-2
returns-then-settled-2 t c =
    let front : (c.run_held.result ≡ true) × (every (held c.args.plane c.args.wanted) (patches_below c.args.scene.now.bytes.now c.node-n.result.positive) ≡ true) =
    elim c.if-run_held.branch [
      | then-run_held+then-settled w ↦ (w.if-run_held.true, sym (settled_held c.args.scene.now.checked c.requires.0 c.args.wanted w.settled.ensures w.if-settled.true))
      | then-run_held+else-settled w ↦ (w.if-run_held.true, sym w.subtree_held.ensures ∙ sym w.value-is ∙ c.if-subtree_held.true)
      | else-run_held w ↦ absurd (search (rules, w.value-is))
    ]
    in
    third_decides (every_node_lem (held c.args.plane c.args.wanted) c.node-n.ensures) c.run_held.ensures front.0 refl front.1
    (c.if-settled-2.true ∙ settled_held c.args.scene.now.checked c.requires.0 c.args.wanted c.settled-then-subtree_held.ensures c.if-settled-2.true)

pub returns-else-settled-2 : goal.returns-else-settled-2
returns-else-settled-2 t c =
    let front : (c.run_held.result ≡ true) × (every (held c.args.plane c.args.wanted) (patches_below c.args.scene.now.bytes.now c.node-n.result.positive) ≡ true) =
    elim c.if-run_held.branch [
      | then-run_held+then-settled w ↦ (w.if-run_held.true, sym (settled_held c.args.scene.now.checked c.requires.0 c.args.wanted w.settled.ensures w.if-settled.true))
      | then-run_held+else-settled w ↦ (w.if-run_held.true, sym w.subtree_held.ensures ∙ sym w.value-is ∙ c.if-subtree_held.true)
      | else-run_held w ↦ absurd (search (rules, w.value-is))
    ]
    in
    third_decides (every_node_lem (held c.args.plane c.args.wanted) c.node-n.ensures) c.run_held.ensures front.0 refl front.1 c.subtree_held-else-settled-2.ensures

pub returns-else-subtree_held : goal.returns-else-subtree_held
returns-else-subtree_held t c =
    c.if-subtree_held.false
    ∙ elim c.if-run_held.branch [
      | then-run_held+then-settled w ↦ absurd (search (rules, w.value-is))
      | then-run_held+else-settled w ↦ second_of_three (every_node_lem (held c.args.plane c.args.wanted) c.node-n.ensures) w.subtree_held.ensures (sym w.value-is ∙ c.if-subtree_held.false)
      | else-run_held w ↦ first_of_three (every_node_lem (held c.args.plane c.args.wanted) c.node-n.ensures) c.run_held.ensures w.if-run_held.false
    ]
