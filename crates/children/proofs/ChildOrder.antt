-- Question 5, node by node: each child after its parent.
use mathlib.Core.Path.{◌≡◌, refl, sym, ap, ap₂, ◌∙◌}
use mathlib.Core.Bool.{Bool, ◌&&◌}
use mathlib.Core.List.{List, map}
use Prim.Native.Nat.{ℕ, zero, suc}
use Rattle.std.specs.List.{list_all, range_with_len}
use Rattle.model.specs.Lists.{every, range}
use Rattle.model.specs.Format.{NodeRecord, decode}
use Rattle.model.specs.Questions.{every_node}
use Rattle.format.specs.declared.layout.Layout.{Layout}
use Rattle.format.specs.Layout.{LaidOut, node_number}
use Rattle.format.proofs.Decoded.{node_count_lem}
use Rattle.format.proofs.Ranges.{every_of_range}
use Rattle.children.specs.Children.{proper_children, children_in_order}

-- a test that is told the node's number, over a table
told_every :
    (test : ℕ → NodeRecord → Bool) (f : ℕ → NodeRecord) (i n : ℕ) →
    every_node test i (map f (range i n)) ≡ every (λ (k : ℕ). test k (f k)) (range i n)
unfolding every_node
told_every test f i zero = refl
told_every test f i (suc n) = ap (λ (t : Bool). test i (f i) && t) (told_every test f (suc i) n)

pub ordered :
    {bytes : List ℕ} {l : Layout} → LaidOut bytes l →
    list_all (λ (k : ℕ). proper_children l.nodes k (node_number bytes k)) (range_with_len 0 l.nodes)
    ≡ children_in_order (decode bytes)
ordered {bytes} {l} laid =
    every_of_range (λ (k : ℕ). proper_children l.nodes k (node_number bytes k)) 0 l.nodes
    ∙ sym
    (ap₂ (λ (n : ℕ) (ns : List NodeRecord). every_node (proper_children n) 0 ns) (node_count_lem laid) laid.nodes
    ∙ told_every (proper_children l.nodes) (node_number bytes) 0 l.nodes)
