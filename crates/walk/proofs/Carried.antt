-- What the tests say of each node record and each patch of the table holds of each node and each patch of the tree.
use mathlib.Core.Path.{◌≡◌, refl, sym, ap, subst, ◌∙◌}
use mathlib.Core.List.Memᴰ
use mathlib.Core.List.{List, [], ◌∷◌, map, map-map, Memᴰ}
use Prim.Native.Nat.{ℕ, zero, suc, ◌<◌}
use native.Mathlib.Omega.{arith}
use native.Mathlib.Decide.{dec_lt}
use lib.Dec.{T}
use lib.ListN.{length, take, drop, length-map}
use Rattle.model.specs.Vector.{Plane}
use Rattle.model.specs.Patch.{Patch}
use Rattle.model.specs.Tree.{Tree, leaf, node}
use Rattle.model.specs.Format.{Run, NodeRecord, PatchRecord, Scene, inRun, patch_of, patch_table, patch_numbered, number_tree}
use Rattle.model.specs.Questions.{off_one_line, planes_proper, patch_runs_follow, never_falling, panels_never_fall}
use Rattle.model.proofs.Tests.{every_true}
use Rattle.model.proofs.Ranges.{get_d_member, by_number}
use Rattle.checked.proofs.Rooted.{node_numbered}
use Rattle.checked.proofs.Subtrees.{tree_of, run, tree_at_is, tree_node, tree_leaf}
use Rattle.model.proofs.Runs.{runs_between}

-- ---- the part of a list that a run names

part_map : {A B : Type 0} (f : A → B) (r : Run) (l : List A) → inRun r (map f l) ≡ map f (inRun r l)
part_map {A} {B} f r l = ap (take r.count) (drop_map r.first l) ∙ take_map r.count (drop r.first l)
  where
    take_map : (n : ℕ) (l : List A) → take n (map f l) ≡ map f (take n l)
    take_map zero l = refl
    take_map (suc n) [] = refl
    take_map (suc n) (a ∷ l) = ap (◌∷◌ (f a)) (take_map n l)

    drop_map : (n : ℕ) (l : List A) → drop n (map f l) ≡ map f (drop n l)
    drop_map zero l = refl
    drop_map (suc n) [] = refl
    drop_map (suc n) (a ∷ l) = drop_map n l

-- ---- nodes

-- what holds of the plane and the own list of every node of a tree
abbrev pub EveryNode : {A : Type 0} → (Plane → List A → Type 0) → Tree A → Type 0
EveryNode P leaf = Unit {0}
EveryNode P (node s own front back) = P s own × EveryNode P front × EveryNode P back

-- what holds of each node record holds of each node of the tree
module _
    (s : Scene) (P : Plane → List ℕ → Type 0)
    (each : (n : NodeRecord) → Memᴰ n s.nodes → P n.plane (run 0 n))
  where
    below : (depth k : ℕ) → EveryNode P (tree_of run depth s.nodes k)
    unfolding tree_of
    below zero k = tt
    below (suc depth) k = go (dec_lt k (length s.nodes)) (below depth n.positive) (below depth n.negative)
      where
        n : NodeRecord
        n = node_numbered s.nodes k

        go :
            Dec (k < length s.nodes) →
            EveryNode P (tree_of run depth s.nodes n.positive) →
            EveryNode P (tree_of run depth s.nodes n.negative) →
            EveryNode P (tree_of run (suc depth) s.nodes k)
        go (yes h) front back =
            subst (EveryNode P) (sym (tree_node run s.nodes depth k h))
            (each n (get_d_member s.nodes k _ h), front, back)
        go (no h) front back = subst (EveryNode P) (sym (tree_leaf run s.nodes (suc depth) k (omega arith))) tt

    pub carried : EveryNode P (number_tree s)
    unfolding number_tree
    carried = rw tree_at_is (below (length s.nodes) 0)

-- a node has the patches of its record's run
pub run_patches :
    (s : Scene) →
    T (patch_runs_follow s) →
    (n : NodeRecord) →
    Memᴰ n s.nodes →
    map (patch_numbered s) (run 0 n) ≡ inRun n.patch_run (patch_table s)
unfolding patch_numbered patch_table patch_runs_follow
run_patches s runs n m =
    by_number (patch_table s) _ n.patch_run.first n.patch_run.count
    (rw (length-map s.patches (patch_of s.corners))
    (runs_between (length s.patches) 0 (map run_of s.nodes) runs n.patch_run (Memᴰ.map run_of m)).ends)
  where
    run_of : NodeRecord → Run
    run_of n = n.patch_run

-- ---- the tests

-- question 4
pub plane_proper : (s : Scene) → T (planes_proper s) → (n : NodeRecord) → Memᴰ n s.nodes → T (off_one_line n.plane)
unfolding planes_proper
plane_proper s t = (every_true (λ (n : NodeRecord). off_one_line n.plane) s.nodes).0 t

-- question 7
pub panels_rise_lem :
    (s : Scene) →
    T (panels_never_fall s) →
    (n : NodeRecord) →
    Memᴰ n s.nodes →
    T (never_falling (map (λ (p : Patch). p.panel) (inRun n.patch_run (patch_table s))))
unfolding panels_never_fall patch_table patch_of
panels_rise_lem s t n m =
    rw (part_map (patch_of s.corners) n.patch_run s.patches, map-map)
    ((every_true (λ (n : NodeRecord). never_falling (map (λ (p : PatchRecord). p.panel) (inRun n.patch_run s.patches))) s.nodes).0 t n m)
