-- The nodes of a checked scene.
use mathlib.Core.Path.{◌≡◌, sym, ap, ap₂, subst, ◌∙◌}
use mathlib.Core.List.{List}
use Prim.Native.Nat.{ℕ, ◌+◌, ◌≤◌, ◌<◌}
use native.Mathlib.Omega.{arith}
use lib.ListN.{length}
use Rattle.model.specs.Tree.{leaf, node}
use Rattle.model.specs.Format.{NodeRecord, Scene, decode, no_child}
use Rattle.format.specs.Machine.{node_of}
use Rattle.format.specs.Layout.{node_number}
use Rattle.model.specs.Bounds.{PlaneWithin}
use Rattle.format.proofs.Decoded.{node_count_lem, node_at}
use Rattle.format.proofs.InRange.{node_within, bounded}
use Rattle.format.specs.declared.records.Node.{Node}
use Rattle.format.specs.declared.layout.Layout.{Layout}
use Rattle.checked.specs.Checked.{Checked, tree_below, NodeIs}
use Rattle.checked.proofs.Rooted.{node_numbered, Rooted, rooted}
use Rattle.checked.proofs.Subtrees.{run, joined, tree_at_is, tree_leaf, subtree_node}

-- what the questions say of node k, whose record is n
record Known (bytes : List ℕ) (l : Layout) (k : ℕ) (n : NodeRecord) : Type 0 where
  positive_above : k < n.positive
  negative_above : k < n.negative
  tree : tree_below bytes k ≡ node n.plane (run k n) (tree_below bytes n.positive) (tree_below bytes n.negative)

module _ (bytes : List ℕ) (l : Layout) (w : Checked bytes l) where
  pub few_nodes : length (decode bytes).nodes ≤ no_child
  few_nodes = rw (node_count_lem w.laid) (omega (arith, w.laid.few_nodes))

  is_rooted : Rooted (decode bytes).nodes
  is_rooted = rooted (decode bytes) few_nodes w.children

  known : (k : ℕ) → k < length (decode bytes).nodes → Known bytes l k (node_numbered (decode bytes).nodes k)
  known k h =
      let s : Scene = decode bytes in
      let n : NodeRecord = node_numbered s.nodes k in
      record {
        positive_above = (is_rooted.rising k h).0;
        negative_above = (is_rooted.rising k h).1;
        tree =
            tree_at_is _ s.nodes k
            ∙ subtree_node run s.nodes is_rooted k h
            ∙ sym (ap₂ (joined run s.nodes k) (tree_at_is _ s.nodes n.positive) (tree_at_is _ s.nodes n.negative));
      }

  pub node_is : (k : ℕ) → k < l.nodes → (r : Node) → node_of r ≡ node_number bytes k → NodeIs bytes l k r
  node_is k h r e = made (subst (Known bytes l k) (node_at w.laid k _ h ∙ sym e) (known k (rw (node_count_lem w.laid) h)))
    where
      made : Known bytes l k (node_of r) → NodeIs bytes l k r
      made f =
          let p : PlaneWithin 10000 (node_number bytes k).plane = node_within w.laid w.coordinates k h in
          record {
            value = e;
            points =
                record {
                  a_bounded = bounded (ap (λ (n : NodeRecord). n.plane.a) e) p.a_within;
                  b_bounded = bounded (ap (λ (n : NodeRecord). n.plane.b) e) p.b_within;
                  c_bounded = bounded (ap (λ (n : NodeRecord). n.plane.c) e) p.c_within;
                };
            positive_above = f.positive_above;
            negative_above = f.negative_above;
            run_inside = subst (λ (n : NodeRecord). n.patch_run.first + n.patch_run.count ≤ l.patches) (sym e) (w.inside.patches k h).inside;
            tree = f.tree;
          }

  -- below a number that is no node's there is nothing
  pub no_node : (k : ℕ) → l.nodes ≤ k → tree_below bytes k ≡ leaf
  no_node k h = tree_at_is _ (decode bytes).nodes k ∙ tree_leaf run (decode bytes).nodes _ k (rw (node_count_lem w.laid) h)
