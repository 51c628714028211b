-- The tree at and below a node, with anything in place of the node's patch numbers.
use mathlib.Core.Path.{◌≡◌, refl, sym, ap, ap₂, ◌∙◌}
use mathlib.Core.Bool.{Bool, true, false}
use mathlib.Core.List.{List, map, map-append}
use Prim.Native.Nat.{ℕ, zero, suc, ◌+◌, ◌≤◌, ◌<◌}
use native.Mathlib.Omega.{arith}
use native.Mathlib.Decide.{dec_lt}
use lib.Dec.{ltb}
use borrow.Author.Tests.{lt-ltb, le-ltb}
use lib.ListN.{length}
use Rattle.model.specs.Lists.{range}
use Rattle.model.specs.Tree.{Tree, leaf, node, contents, map_tree}
use Rattle.model.specs.Format.{NodeRecord, tree_at}
use Rattle.checked.proofs.Rooted.{node_numbered, Rooted}

abbrev present : {A : Type 0} → Bool → Tree A → Tree A
present true t = t
present false t = leaf

present_is : (b : Bool) (t : Tree ℕ) → present b t ≡ elim b [ true ↦ t | false ↦ leaf ]
present_is true t = refl
present_is false t = refl

-- `own` says what a node holds, by its number and its record
unfoldable pub tree_of : {A : Type 0} → (ℕ → NodeRecord → List A) → ℕ → List NodeRecord → ℕ → Tree A
tree_of own zero nodes k = leaf
tree_of own (suc depth) nodes k =
    let n : NodeRecord = node_numbered nodes k in
    present (ltb k (length nodes))
    (node n.plane (own k n) (tree_of own depth nodes n.positive) (tree_of own depth nodes n.negative))

-- a node's patch numbers
abbrev pub run : ℕ → NodeRecord → List ℕ
run k n = range n.patch_run.first n.patch_run.count

-- the model's tree is the one that holds the patch numbers
pub tree_at_is : (depth : ℕ) (nodes : List NodeRecord) (k : ℕ) → tree_at depth nodes k ≡ tree_of run depth nodes k
unfolding tree_at tree_of
tree_at_is zero nodes k = refl
tree_at_is (suc depth) nodes k =
    let n : NodeRecord = node_numbered nodes k in
    sym (present_is (ltb k (length nodes)) _)
    ∙ ap₂ (λ (front back : Tree ℕ). present (ltb k (length nodes)) (node n.plane (run k n) front back))
    (tree_at_is depth nodes n.positive) (tree_at_is depth nodes n.negative)

module _ {A : Type 0} (own : ℕ → NodeRecord → List A) (nodes : List NodeRecord) where
  -- node k over two trees
  abbrev pub joined : ℕ → Tree A → Tree A → Tree A
  joined k front back = node (node_numbered nodes k).plane (own k (node_numbered nodes k)) front back

  -- node k over its children's trees
  abbrev over : ℕ → ℕ → Tree A
  over depth k =
      joined k (tree_of own depth nodes (node_numbered nodes k).positive)
      (tree_of own depth nodes (node_numbered nodes k).negative)

  pub tree_node : (depth k : ℕ) → k < length nodes → tree_of own (suc depth) nodes k ≡ over depth k
  unfolding tree_of
  tree_node depth k h = ap (λ (b : Bool). present b (over depth k)) (lt-ltb k (length nodes) h)

  pub tree_leaf : (depth k : ℕ) → length nodes ≤ k → tree_of own depth nodes k ≡ leaf
  unfolding tree_of
  tree_leaf zero k h = refl
  tree_leaf (suc depth) k h = ap (λ (b : Bool). present b (over depth k)) (le-ltb k (length nodes) h)

  -- the tree at and below node k, by a bound that serves every node
  abbrev pub subtree : ℕ → Tree A
  subtree k = tree_of own (length nodes) nodes k

  module _ (r : Rooted nodes) where
    -- the bound on the depth has no part in the tree once it is large enough
    deep_enough :
        (depth depth' k : ℕ) → length nodes ≤ depth + k → length nodes ≤ depth' + k →
        tree_of own depth nodes k ≡ tree_of own depth' nodes k
    deep_enough zero depth' k h h' = tree_leaf zero k (omega arith) ∙ sym (tree_leaf depth' k (omega arith))
    deep_enough (suc depth) zero k h h' = tree_leaf (suc depth) k (omega arith) ∙ sym (tree_leaf zero k (omega arith))
    deep_enough (suc depth) (suc depth') k h h' =
        go (dec_lt k (length nodes))
        (λ c l. deep_enough depth depth' c (omega arith) (omega arith))
      where
        go : Dec (k < length nodes) →
            ((c : ℕ) → k < c → tree_of own depth nodes c ≡ tree_of own depth' nodes c) →
            tree_of own (suc depth) nodes k ≡ tree_of own (suc depth') nodes k
        go (yes l) below =
            tree_node depth k l
            ∙ ap₂ (joined k) (below (node_numbered nodes k).positive (r.rising k l).0) (below (node_numbered nodes k).negative (r.rising k l).1)
            ∙ sym (tree_node depth' k l)
        go (no l) below = tree_leaf (suc depth) k (omega arith) ∙ sym (tree_leaf (suc depth') k (omega arith))

    pub subtree_node :
        (k : ℕ) → k < length nodes →
        subtree k ≡ joined k (subtree (node_numbered nodes k).positive) (subtree (node_numbered nodes k).negative)
    subtree_node k h =
        deep_enough (length nodes) (suc (length nodes)) k (omega arith) (omega arith)
        ∙ tree_node (length nodes) k h

pub contents_map : {A B : Type 0} (f : A → B) (t : Tree A) → contents (map_tree f t) ≡ map f (contents t)
unfolding contents map_tree
contents_map f leaf = refl
contents_map f (node s own front back) =
    rw (contents_map f front, contents_map f back, map-append, map-append)
