-- What question 5 says of the nodes: children have higher numbers, and each node but the root is named once.
use mathlib.Core.Path.{◌≡◌}
use mathlib.Core.Logic.{⊎_elim}
use mathlib.Core.Bool.{Bool, ◌&&◌}
use mathlib.Core.List.{List, [], ◌∷◌}
use Prim.Native.Nat.{ℕ, zero, suc, ◌+◌, ◌-◌, ◌≤◌, ◌<◌}
use native.Mathlib.Nat.{zero-add, add-zero, add-suc, suc-add}
use native.Mathlib.Omega.{arith}
use lib.Dec.{T, eqb, ltb, eqb→eq, ltb→lt}
use lib.ListN.{length, get_or}
use Rattle.model.specs.Lists.{every, range, occurrences}
use Rattle.model.specs.Format.{NodeRecord, Scene, empty_node, no_child}
use Rattle.model.specs.Questions.{proper_child, every_node, children, children_proper}
use Rattle.model.proofs.Tests.{both, either, every_true}
use Rattle.model.proofs.Ranges.{in_range}

-- a node by its number; past the end a node with no child and no patch
abbrev pub node_numbered : List NodeRecord → ℕ → NodeRecord
node_numbered nodes k = get_or nodes k empty_node

-- question 5, as facts
pub record Rooted (nodes : List NodeRecord) : Type 0 where
  pub rising : (k : ℕ) → k < length nodes → (k < (node_numbered nodes k).positive) × (k < (node_numbered nodes k).negative)
  pub named : (j : ℕ) → 0 < j → j < length nodes → occurrences j (children nodes) ≡ 1

every_node_at :
    (test : ℕ → NodeRecord → Bool) (a : ℕ) (nodes : List NodeRecord) →
    T (every_node test a nodes) →
    (k : ℕ) → k < length nodes → T (test (a + k) (node_numbered nodes k))
unfolding every_node
every_node_at test a [] t k h = absurd (omega arith)
every_node_at test a (n ∷ nodes) t zero h = rw add-zero ((both (test a n) (every_node test (suc a) nodes)).0 t).0
every_node_at test a (n ∷ nodes) t (suc k) h =
    rw (add-suc, ← suc-add)
    (every_node_at test (suc a) nodes ((both (test a n) (every_node test (suc a) nodes)).0 t).1 k (omega arith))

-- a child that is a node's number is above its parent's, and so is 65,535
above_parent : (count k c : ℕ) → count ≤ no_child → k < count → T (proper_child count k c) → k < c
above_parent count k c most h t =
    ⊎_elim (λ (e : T (eqb c no_child)). omega (arith, eqb→eq)) (λ (u : T (ltb k c && ltb c count)). ltb→lt k c ((both (ltb k c) (ltb c count)).0 u).0)
    ((either (eqb c no_child) (ltb k c && ltb c count)).0 t)

module _ (s : Scene) (most : length s.nodes ≤ no_child) where
  proper_node : ℕ → NodeRecord → Bool
  proper_node k n = proper_child (length s.nodes) k n.positive && proper_child (length s.nodes) k n.negative

  rising :
      T (every_node proper_node 0 s.nodes) →
      (k : ℕ) →
      k < length s.nodes →
      (k < (node_numbered s.nodes k).positive) × (k < (node_numbered s.nodes k).negative)
  unfolding proper_node
  rising t k h =
      let n : NodeRecord = node_numbered s.nodes k in
      let u =
      (both (proper_child (length s.nodes) k n.positive) (proper_child (length s.nodes) k n.negative)).0
      (rw zero-add at (every_node_at proper_node 0 s.nodes t k h)) in
      (above_parent _ k n.positive most h u.0, above_parent _ k n.negative most h u.1)

  pub rooted : T (children_proper s) → Rooted s.nodes
  unfolding children_proper proper_node
  rooted t =
      let once : ℕ → Bool = λ (j : ℕ). eqb (occurrences j (children s.nodes)) 1 in
      let u = (both (every_node proper_node 0 s.nodes) (every once (range 1 (length s.nodes - 1)))).0 t in
      record {
        rising = rising u.0;
        named =
            λ j h l. eqb→eq _ 1
            ((every_true once (range 1 (length s.nodes - 1))).0 u.1 j
            ((in_range 1 (length s.nodes - 1) j).1 (h, omega arith)));
      }
