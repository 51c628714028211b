-- The tree holds just the table: the patches of the tree are the scene's patches, each as often.
use mathlib.Core.Path.{◌≡◌, refl, sym, ap, ◌∙◌}
use mathlib.Core.Logic.{◌↔◌}
use mathlib.Core.Bool.{Bool, true, false, cond}
use mathlib.Core.List.Memᴰ
use mathlib.Core.List.{List, ◌++◌, map, map-append, Memᴰ}
use Prim.Native.Nat.{ℕ, ◌≤◌, ◌<◌}
use native.Mathlib.Nat.{zero-add}
use native.Mathlib.Omega.{arith}
use lib.Dec.{T, eqb, eqb→eq, eqb_refl}
use lib.IntN.{pos}
use lib.ListN.{length, length-map}
use lib.Signed.{lt_z}
use Rattle.model.specs.Lists.{range, tally, occurrences}
use Rattle.model.specs.Vector.{Vec, side}
use Rattle.model.specs.Patch.{Patch}
use Rattle.model.specs.Tree.{Tree, leaf, node, contents, map_tree, order}
use Rattle.model.specs.Format.{NodeRecord, Scene, no_child, patch_table, patch_numbered, number_tree, patch_tree, patch_of}
use Rattle.model.specs.Questions.{children_proper, patch_runs_follow}
use Rattle.model.specs.Removal.{same_patch, times_listed}
use Rattle.model.proofs.Tests.{tally_some}
use Rattle.model.proofs.Totals.{total, total_map, tally_append, tally_map, tally_all}
use Rattle.model.proofs.Ranges.{range_length, in_range, all_by_number}
use Rattle.checked.proofs.Rooted.{node_numbered, rooted}
use Rattle.checked.proofs.Subtrees.{run, tree_at_is, contents_map}
use Rattle.walk.proofs.Sums.{tally_tree}
use Rattle.walk.proofs.Runs.{follows}

-- ---- trees

pub order_map : {A B : Type 0} (f : A → B) (eye : Vec) (t : Tree A) → order eye (map_tree f t) ≡ map f (order eye t)
unfolding order map_tree
order_map f eye leaf = refl
order_map f eye (node s own front back) = step (lt_z (side s eye) (pos 0)) (order_map f eye front) (order_map f eye back)
  where
    step : (b : Bool) → order eye (map_tree f front) ≡ map f (order eye front) → order eye (map_tree f back) ≡ map f (order eye back) →
        cond b
        (order eye (map_tree f back) ++ (map f own ++ order eye (map_tree f front)))
        (order eye (map_tree f front) ++ (map f own ++ order eye (map_tree f back)))
        ≡ map f (cond b (order eye back ++ (own ++ order eye front)) (order eye front ++ (own ++ order eye back)))
    step true h k = rw (h, k, map-append, map-append)
    step false h k = rw (h, k, map-append, map-append)

-- the walk goes by everything once
order_tally : {A : Type 0} (test : A → Bool) (eye : Vec) (t : Tree A) → tally test (order eye t) ≡ tally test (contents t)
unfolding order contents
order_tally test eye leaf = refl
order_tally {A} test eye (node s own front back) =
    step (lt_z (side s eye) (pos 0)) (order eye front) (order eye back) (contents front) (contents back)
    (order_tally test eye front) (order_tally test eye back)
  where
    step : (b : Bool) (f g f' g' : List A) → tally test f ≡ tally test f' → tally test g ≡ tally test g' →
        tally test (cond b (g ++ (own ++ f)) (f ++ (own ++ g))) ≡ tally test (own ++ (f' ++ g'))
    step true f g f' g' h k = simp tally_append (omega arith)
    step false f g f' g' h k = simp tally_append (omega arith)

order_length : {A : Type 0} (eye : Vec) (t : Tree A) → length (order eye t) ≡ length (contents t)
order_length {A} eye t = sym (tally_all (order eye t)) ∙ order_tally (λ (a : A). true) eye t ∙ tally_all (contents t)

-- ---- lists of numbers in which each number stands as often

same_members : (l l' : List ℕ) → ((k : ℕ) → occurrences k l ≡ occurrences k l') → (k : ℕ) → Memᴰ k l → Memᴰ k l'
same_members l l' h k m =
    let s = (tally_some (λ (j : ℕ). eqb j k) l').0 (rw (h k) at ((tally_some (λ (j : ℕ). eqb j k) l).1 (k, m, eqb_refl k))) in
    Memᴰ.cast (sym (eqb→eq s.0 k s.2)) s.1

-- ---- the scene

pub table_by_number : (s : Scene) → map (patch_numbered s) (range 0 (length s.patches)) ≡ patch_table s
unfolding patch_numbered patch_table
table_by_number s =
    ap (λ (n : ℕ). map (patch_numbered s) (range 0 n)) (sym (length-map s.patches (patch_of s.corners)))
    ∙ all_by_number (patch_table s) _

module _ (s : Scene) (most : length s.nodes ≤ no_child) (fifth : T (children_proper s)) (runs : T (patch_runs_follow s)) where
  -- the tree's patch numbers are those of the table, each once
  number_tally : (test : ℕ → Bool) → tally test (contents (number_tree s)) ≡ tally test (range 0 (length s.patches))
  unfolding number_tree patch_runs_follow
  number_tally test =
      let all = follows (λ (n : NodeRecord). n.patch_run) (length s.patches) 0 s.nodes runs in
      let count : all.count ≡ length s.patches = sym (zero-add _) ∙ all.sum in
      ap (λ (t : Tree ℕ). tally test (contents t)) (tree_at_is (length s.nodes) s.nodes 0)
      ∙ tally_tree run s.nodes (rooted s most fifth) test
      ∙ sym (total_map (λ (n : NodeRecord). tally test (run 0 n)) (node_numbered s.nodes) (range 0 (length s.nodes)))
      ∙ ap (total (λ (n : NodeRecord). tally test (run 0 n))) (all_by_number s.nodes _)
      ∙ all.together test
      ∙ ap (λ (n : ℕ). tally test (range 0 n)) count

  numbers_once : (k : ℕ) → occurrences k (contents (number_tree s)) ≡ occurrences k (range 0 (length s.patches))
  numbers_once k = number_tally (λ (j : ℕ). eqb j k)

  -- so the walk has as many numbers as there are patches, and each is a patch's
  pub walk_length : (eye : Vec) → length (order eye (number_tree s)) ≡ length s.patches
  walk_length eye =
      order_length eye (number_tree s)
      ∙ sym (tally_all (contents (number_tree s)))
      ∙ number_tally (λ (k : ℕ). true)
      ∙ tally_all (range 0 (length s.patches))
      ∙ range_length 0 (length s.patches)

  pub walk_numbers : (eye : Vec) (k : ℕ) → Memᴰ k (order eye (number_tree s)) → k < length s.patches
  walk_numbers eye k m =
      let h =
      (in_range 0 (length s.patches) k).0
      (same_members (order eye (number_tree s)) (range 0 (length s.patches))
      (λ j. order_tally (λ (i : ℕ). eqb i j) eye (number_tree s) ∙ numbers_once j) k m) in
      omega arith

  -- and its patches are those of the table, each as often
  patch_tally : (test : Patch → Bool) → tally test (contents (patch_tree s)) ≡ tally test (patch_table s)
  unfolding patch_tree
  patch_tally test =
      ap (tally test) (contents_map (patch_numbered s) (number_tree s))
      ∙ tally_map test (patch_numbered s) (contents (number_tree s))
      ∙ number_tally (λ (k : ℕ). test (patch_numbered s k))
      ∙ sym (tally_map test (patch_numbered s) (range 0 (length s.patches)))
      ∙ ap (tally test) (table_by_number s)

  pub patches_listed : (p : Patch) → times_listed p (contents (patch_tree s)) ≡ times_listed p (patch_table s)
  unfolding times_listed
  patches_listed p = patch_tally (same_patch p)

  -- tree and table have the same members, whatever stands in place of the numbers
  pub number_members :
      {A : Type 0} (f : ℕ → A) (a : A) →
      Memᴰ a (map f (contents (number_tree s))) ↔ Memᴰ a (map f (range 0 (length s.patches)))
  number_members f a = (
    renumbered (contents (number_tree s)) (range 0 (length s.patches)) numbers_once,
    renumbered (range 0 (length s.patches)) (contents (number_tree s)) (λ k. sym (numbers_once k)),
  )
    where
      renumbered :
          (l l' : List ℕ) →
          ((k : ℕ) → occurrences k l ≡ occurrences k l') →
          Memᴰ a (map f l) →
          Memᴰ a (map f l')
      renumbered l l' h m =
          let found = Memᴰ.of_map f l m in
          Memᴰ.cast (sym found.2) (Memᴰ.map f (same_members l l' h found.0 found.1))
