use mathlib.Core.Path.{◌≡◌, refl, ◌∙◌}
use Prim.Native.Nat.{ℕ}
use native.Mathlib.Omega.{arith}
use Rattle.std.proofs.Common.{rules, tests}
use Rattle.std.proofs.lemmas.Iterator.{YieldsList-from_range}
use Rattle.std.proofs.lemmas.Iterator.Search.{all_from_yields_List}
use Rattle.std.specs.List.{list_all, range_with_len}
use Rattle.format.specs.Layout.{node_number}
use Rattle.children.specs.Children.{proper_children}
use Rattle.children.proofs.ChildOrder.{ordered}
use Rattle.children.proofs.children_in_order.Goals as goal

pub returns : goal.returns
returns c =
    let s = c.args.scene.now in
    let asked : c.all.result ≡ list_all (λ (k : ℕ). proper_children s.layout.nodes k (node_number s.bytes.now k)) (range_with_len 0 s.layout.nodes) =
    all_from_yields_List _ _ _ _ c.all.ensures.ran (YieldsList-from_range 0 s.layout.nodes s.layout.nodes refl (omega arith)) (λ x b q k. search (rules, tests)) in
    asked ∙ ordered s.laid_out
