-- Sums over the nodes of a tree: what each node passes on to its parent is at node 0 the sum over all nodes.
use mathlib.Core.Path.{◌≡◌, refl, sym, ◌∙◌}
use mathlib.Core.Bool.{Bool}
use mathlib.Core.List.Memᴰ
use mathlib.Core.List.{List, [], ◌∷◌, Memᴰ}
use Prim.Native.Nat.{ℕ, suc, ◌+◌, ◌≤◌, ◌<◌}
use native.Mathlib.Nat.{zero-add, add-zero, add-suc, suc-add, one-mul}
use native.Mathlib.Omega.{arith}
use lib.Dec.{eqb}
use lib.ListN.{length}
use Rattle.model.specs.Lists.{range, tally, occurrences}
use Rattle.model.specs.Tree.{contents}
use Rattle.model.specs.Format.{NodeRecord}
use Rattle.model.specs.Questions.{children}
use Rattle.model.proofs.Tests.{of_cons}
use Rattle.model.proofs.Ranges.{in_range}
use Rattle.model.proofs.Totals.{total, total_cong, total_swap, tally_append, only, total_same, picked}
use Rattle.checked.proofs.Rooted.{node_numbered, Rooted}
use Rattle.checked.proofs.Subtrees.{subtree, tree_leaf, subtree_node}

-- a sum over a list in which each number of a range stands once, and what else it has counts nothing
each_once_lem :
    (f : ℕ → ℕ) (l : List ℕ) (a n : ℕ) →
    ((c : ℕ) → Memᴰ c l → (a ≤ c) × (a + n ≤ c → f c ≡ 0)) →
    ((j : ℕ) → a ≤ j → j < a + n → occurrences j l ≡ 1) →
    total f l ≡ total f (range a n)
each_once_lem f l a n inside once =
    total_cong f (λ (c : ℕ). total (λ (j : ℕ). only (eqb c j) (f j)) (range a n)) l
    (λ c m. sym (picked f c a n (inside c m).0 (inside c m).1))
    ∙ total_swap (λ (c j : ℕ). only (eqb c j) (f j)) l (range a n)
    ∙ total_cong (λ (j : ℕ). total (λ (c : ℕ). only (eqb c j) (f j)) l) f (range a n)
    (λ j m. total_same (λ (c : ℕ). eqb c j) (f j) l ∙ rw (once j ((in_range a n j).0 m).0 ((in_range a n j).0 m).1, one-mul))

-- each node's own and what its children add up to
with_children :
    (own sum : ℕ → ℕ) (nodes : List NodeRecord) (a : ℕ) →
    ((k : ℕ) → k < length nodes → sum (a + k) ≡ own (a + k) + (sum (node_numbered nodes k).positive + sum (node_numbered nodes k).negative)) →
    total sum (range a (length nodes)) ≡ total own (range a (length nodes)) + total sum (children nodes)
unfolding total children
with_children own sum [] a step = refl
with_children own sum (n ∷ nodes) a step =
    let first : sum a ≡ own a + (sum n.positive + sum n.negative) = rw add-zero at (step 0 (omega arith)) in
    let rest : total sum (range (suc a) (length nodes)) ≡ total own (range (suc a) (length nodes)) + total sum (children nodes) =
    with_children own sum nodes (suc a) (λ k h. rw (suc-add, ← add-suc) (step (suc k) (omega arith))) in
    omega arith

children_above :
    (nodes : List NodeRecord) →
    ((k : ℕ) → k < length nodes → (0 < (node_numbered nodes k).positive) × (0 < (node_numbered nodes k).negative)) →
    (c : ℕ) → Memᴰ c (children nodes) → 0 < c
unfolding children
children_above [] h = λ c m. absurd (Memᴰ.not-nil m)
children_above (n ∷ nodes) h =
    of_cons (λ (c : ℕ). 0 < c) (h 0 (omega arith)).0
    (of_cons (λ (c : ℕ). 0 < c) (h 0 (omega arith)).1 (children_above nodes (λ k l. h (suc k) (omega arith))))

-- a sum that each node passes on to its parent is at node 0 the sum over all nodes
sum_at_root :
    (nodes : List NodeRecord) → Rooted nodes → (own sum : ℕ → ℕ) →
    ((k : ℕ) → k < length nodes → sum k ≡ own k + (sum (node_numbered nodes k).positive + sum (node_numbered nodes k).negative)) →
    ((k : ℕ) → length nodes ≤ k → sum k ≡ 0) →
    sum 0 ≡ total own (range 0 (length nodes))
unfolding total
sum_at_root [] r own sum step none = none 0 (omega arith)
sum_at_root (n ∷ rest) r own sum step none =
    let nodes : List NodeRecord = n ∷ rest in
    let once : total sum (children nodes) ≡ total sum (range 1 (length rest)) =
    each_once_lem sum (children nodes) 1 (length rest)
    (λ c m. (children_above nodes (λ k h. let l = r.rising k h in omega arith) c m, λ h. none c (omega arith)))
    (λ j h l. r.named j h (omega arith)) in
    let all : total sum (range 0 (length nodes)) ≡ total own (range 0 (length nodes)) + total sum (children nodes) =
    with_children own sum nodes 0 (λ k h. rw zero-add (step k h)) in
    omega arith

-- a tally over the tree at and below node 0 is the sum of the tallies over all nodes
pub tally_tree :
    {A : Type 0} (own : ℕ → NodeRecord → List A) (nodes : List NodeRecord) → Rooted nodes → (test : A → Bool) →
    tally test (contents (subtree own nodes 0)) ≡ total (λ (k : ℕ). tally test (own k (node_numbered nodes k))) (range 0 (length nodes))
unfolding contents
tally_tree own nodes r test =
    sum_at_root nodes r (λ (k : ℕ). tally test (own k (node_numbered nodes k))) (λ (k : ℕ). tally test (contents (subtree own nodes k)))
    (λ k h. rw (subtree_node own nodes r k h, tally_append, tally_append))
    (λ k h. rw (tree_leaf own nodes (length nodes) k h))
