-- Question 9 of the tree is question 9 at every node: after question 5 the tree has them all.
use mathlib.Core.Path.{◌≡◌, refl, sym, subst, ◌∙◌}
use mathlib.Core.Logic.{◌⊎◌, inl, inr}
use mathlib.Core.Bool.{Bool, true, false}
use mathlib.Core.List.{List, [], ◌∷◌}
use Prim.Native.Nat.{ℕ, zero, suc, ◌+◌, ◌≤◌, ◌<◌}
use native.Mathlib.Omega.{arith}
use native.Mathlib.Decide.{dec_lt}
use lib.Dec.{eqb, eqb→eq}
use lib.ListN.{length}
use Rattle.model.specs.Lists.{add_if, occurrences}
use Rattle.model.specs.Tree.{divides}
use Rattle.model.specs.Format.{NodeRecord, decode}
use Rattle.model.specs.Questions.{children}
use Rattle.model.proofs.Tests.{is_true, both_true}
use Rattle.model.proofs.Loops.{IsThree, IsEvery, third_decides}
use Rattle.format.specs.declared.records.Node.{Node}
use Rattle.format.specs.declared.layout.Layout.{Layout}
use Rattle.format.specs.Layout.{node_number}
use Rattle.format.proofs.Decoded.{node_count_lem, node_at}
use Rattle.checked.specs.Checked.{Checked}
use Rattle.checked.proofs.Rooted.{node_numbered, Rooted, rooted}
use Rattle.checked.proofs.Nodes.{few_nodes, node_is, no_node}
use Rattle.division.specs.Division.{node_divides}
use Rattle.division.proofs.Branches.{patch_tree_below, divides_leaf, divides_node}

-- ---- every node is reached from the root
-- node k names j as a child
abbrev Names : List NodeRecord → ℕ → ℕ → Type 0
Names nodes j k = ((node_numbered nodes k).positive ≡ j) ⊎ ((node_numbered nodes k).negative ≡ j)

named_by : (j : ℕ) (nodes : List NodeRecord) → 0 < occurrences j (children nodes) → (k : ℕ) × (k < length nodes) × Names nodes j k
unfolding children
named_by j [] h = absurd (omega arith)
named_by j (n ∷ nodes) h = go (eqb n.positive j) (eqb n.negative j) refl refl h (named_by j nodes)
  where
    go : (a b : Bool) → eqb n.positive j ≡ a → eqb n.negative j ≡ b → 0 < add_if a (add_if b (occurrences j (children nodes))) →
        (0 < occurrences j (children nodes) → (k : ℕ) × (k < length nodes) × Names nodes j k) →
        (k : ℕ) × (k < length (n ∷ nodes)) × Names (n ∷ nodes) j k
    go true b e f h rest = (0, omega arith, inl (eqb→eq n.positive j (is_true e)))
    go false true e f h rest = (0, omega arith, inr (eqb→eq n.negative j (is_true f)))
    go false false e f h rest = let r = rest h in (suc r.0, omega (arith, r.1), r.2)

module _ {nodes : List NodeRecord} (r : Rooted nodes) (P : ℕ → Type 0) (root : P 0)
    (down : (k : ℕ) → k < length nodes → P k → P (node_numbered nodes k).positive × P (node_numbered nodes k).negative) where
  from_root : (m j : ℕ) → j < m → j < length nodes → P j
  from_root zero j h l = absurd (omega arith)
  from_root (suc m) zero h l = root
  from_root (suc m) (suc j) h l =
      go (named_by (suc j) nodes (omega (arith, r.named (suc j) (omega arith) l))) (λ k b i. from_root m k b i)
    where
      go : (k : ℕ) × (k < length nodes) × Names nodes (suc j) k → ((k : ℕ) → k < m → k < length nodes → P k) → P (suc j)
      go (k, b, inl e) above = subst P e (down k b (above k (omega (arith, (r.rising k b).0, e)) b)).0
      go (k, b, inr e) above = subst P e (down k b (above k (omega (arith, (r.rising k b).1, e)) b)).1

-- ---- the nodes of a checked scene
-- a node in hand, by its record
abbrev pub in_hand : NodeRecord → Node
in_hand n =
    record {
      a = record { x = n.plane.a.x; y = n.plane.a.y; z = n.plane.a.z };
      b = record { x = n.plane.b.x; y = n.plane.b.y; z = n.plane.b.z };
      c = record { x = n.plane.c.x; y = n.plane.c.y; z = n.plane.c.z };
      positive = n.positive;
      negative = n.negative;
      patches = record { first = n.patch_run.first; count = n.patch_run.count };
    }

abbrev pub node_in_hand : List ℕ → ℕ → Node
node_in_hand bytes k = in_hand (node_number bytes k)

module _ {bytes : List ℕ} {l : Layout} (w : Checked bytes l) where
  abbrev Divides : ℕ → Type 0
  Divides k = divides (patch_tree_below bytes k) ≡ true

  three : (k : ℕ) → k < l.nodes →
      IsThree (node_divides bytes (node_in_hand bytes k)) (divides (patch_tree_below bytes (node_number bytes k).positive))
      (divides (patch_tree_below bytes (node_number bytes k).negative)) (divides (patch_tree_below bytes k))
  three k h = divides_node (node_is bytes l w k h (node_in_hand bytes k) refl)

  parts : (k : ℕ) → k < l.nodes → Divides k →
      (node_divides bytes (node_in_hand bytes k) ≡ true) × Divides (node_number bytes k).positive × Divides (node_number bytes k).negative
  parts k h d =
      let fst = both_true _ _ (sym (three k h).three_tests ∙ d) in
      let snd = both_true _ _ fst.0 in
      (snd.0, snd.1, fst.1)

  reached : Divides 0 → (k : ℕ) → k < l.nodes → Divides k
  reached d k h =
      from_root (rooted (decode bytes) (few_nodes bytes l w) w.children) Divides d
      (λ j b e.
      let i : j < l.nodes = omega (arith, node_count_lem w.laid) in
      subst (λ (n : NodeRecord). Divides n.positive × Divides n.negative) (sym (node_at w.laid j _ i)) ((parts j i e).1, (parts j i e).2))
      (suc k) k (omega arith) (omega (arith, node_count_lem w.laid))

  all_divide : ((k : ℕ) → k < l.nodes → node_divides bytes (node_in_hand bytes k) ≡ true) → (m k : ℕ) → l.nodes ≤ m + k → Divides k
  all_divide g zero k h = sym (divides_leaf bytes k (no_node bytes l w k (omega arith)))
  all_divide g (suc m) k h = go (dec_lt k l.nodes) (λ c b. all_divide g m c (omega arith))
    where
      go : Dec (k < l.nodes) → ((c : ℕ) → k < c → Divides c) → Divides k
      go (yes b) below =
          let n = node_is bytes l w k b (node_in_hand bytes k) refl in
          sym (third_decides (three k b) refl (g k b) refl (below _ n.positive_above) refl) ∙ below _ n.negative_above
      go (no b) below = sym (divides_leaf bytes k (no_node bytes l w k (omega arith)))

  pub nodes_asked : IsEvery l.nodes (λ (k : ℕ). node_divides bytes (node_in_hand bytes k)) (divides (patch_tree_below bytes 0))
  nodes_asked =
      record {
        one_no = λ k h e. go k h e (divides (patch_tree_below bytes 0)) refl;
        all_yes = λ g. all_divide g l.nodes 0 (omega arith);
      }
    where
      go : (k : ℕ) → k < l.nodes → node_divides bytes (node_in_hand bytes k) ≡ false → (b : Bool) → divides (patch_tree_below bytes 0) ≡ b → b ≡ false
      go k h e true d = sym (parts k h (reached d k h)).0 ∙ e
      go k h e false d = refl
