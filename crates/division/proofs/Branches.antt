-- Question 9 and tests on all patches, at a node and below it.
use mathlib.Core.Path.{◌≡◌, refl, sym, ap, ap₂, ◌∙◌}
use mathlib.Core.Bool.{Bool, true, false, ◌&&◌, and_assoc}
use mathlib.Core.List.{List, [], ◌∷◌, ◌++◌, map, map-append}
use Prim.Native.Nat.{ℕ}
use Rattle.model.specs.Lists.{every, range}
use Rattle.model.specs.Vector as model
use Rattle.model.specs.Vector.{turned_over}
use Rattle.model.specs.Patch.{Patch, lies_on}
use Rattle.model.specs.Tree.{Tree, leaf, contents, map_tree, lies_positive, divides}
use Rattle.model.specs.Format.{decode, patch_numbered}
use Rattle.geometry.specs.Machine.{plane_of}
use Rattle.format.specs.declared.records.Node.{Node}
use Rattle.format.specs.declared.layout.Layout.{Layout}
use Rattle.checked.specs.Checked.{tree_below, NodeIs}
use Rattle.halfspaces.specs.Sides.{PlaneIs, held}
use Rattle.division.specs.Division.{node_divides}
use Rattle.halfspaces.specs.declared.planes.Plane.{Plane}
use Rattle.model.proofs.Loops.{IsThree}
use Rattle.checked.proofs.Subtrees.{contents_map}
use Rattle.division.proofs.Placed.{held_on, held_front, held_back}

-- the patches at and below node k
abbrev pub patches_below : List ℕ → ℕ → List Patch
patches_below bytes k = map (patch_numbered (decode bytes)) (contents (tree_below bytes k))

-- ---- a test on every patch

every_append : {A : Type 0} (test : A → Bool) (s t : List A) → every test (s ++ t) ≡ (every test s && every test t)
every_append test [] t = refl
every_append test (a ∷ s) t = ap (λ (b : Bool). test a && b) (every_append test s t) ∙ sym (and_assoc (test a) (every test s) (every test t))

pub every_leaf : (test : Patch → Bool) (bytes : List ℕ) (k : ℕ) → tree_below bytes k ≡ leaf → true ≡ every test (patches_below bytes k)
unfolding contents
every_leaf test bytes k e = sym (ap (λ (t : Tree ℕ). every test (map (patch_numbered (decode bytes)) (contents t))) e)

pub every_node_lem :
    (test : Patch → Bool) {bytes : List ℕ} {l : Layout} {k : ℕ} {n : Node} →
    NodeIs bytes l k n →
    IsThree (every test (map (patch_numbered (decode bytes)) (range n.patches.first n.patches.count)))
    (every test (patches_below bytes n.positive)) (every test (patches_below bytes n.negative)) (every test (patches_below bytes k))
unfolding contents
every_node_lem test {bytes} {k} {n} is = record { three_tests = whole }
  where
    f : ℕ → Patch
    f = patch_numbered (decode bytes)

    own : List ℕ
    own = range n.patches.first n.patches.count

    front : List ℕ
    front = contents (tree_below bytes n.positive)

    back : List ℕ
    back = contents (tree_below bytes n.negative)

    whole : every test (patches_below bytes k) ≡ (every test (map f own) && every test (map f front) && every test (map f back))
    whole =
        ap (λ (t : Tree ℕ). every test (map f (contents t))) is.tree
        ∙ ap (every test) (map-append f own (front ++ back) ∙ ap (λ (l : List Patch). map f own ++ l) (map-append f front back))
        ∙ every_append test (map f own) (map f front ++ map f back)
        ∙ ap (λ (b : Bool). every test (map f own) && b) (every_append test (map f front) (map f back))
        ∙ sym (and_assoc (every test (map f own)) (every test (map f front)) (every test (map f back)))

-- ---- question 9

pub node_divides_lem :
    (bytes : List ℕ) (n : Node) {r : Plane} →
    PlaneIs (plane_of n.a n.b n.c) r →
    IsThree
    (every (held r (record { negative = false; positive = false })) (map (patch_numbered (decode bytes)) (range n.patches.first n.patches.count)))
    (every (held r (record { negative = false; positive = true })) (patches_below bytes n.positive))
    (every (held r (record { negative = true; positive = false })) (patches_below bytes n.negative))
    (node_divides bytes n)
unfolding node_divides
node_divides_lem bytes n is =
    record {
      three_tests =
          ap₂ ◌&&◌
          (ap₂ ◌&&◌ (ap (λ (t : Patch → Bool). every t (map (patch_numbered (decode bytes)) (range n.patches.first n.patches.count))) (held_on is))
          (ap (λ (t : Patch → Bool). every t (patches_below bytes n.positive)) (held_front is)))
          (ap (λ (t : Patch → Bool). every t (patches_below bytes n.negative)) (held_back is));
    }

abbrev pub patch_tree_below : List ℕ → ℕ → Tree Patch
patch_tree_below bytes k = map_tree (patch_numbered (decode bytes)) (tree_below bytes k)

pub divides_leaf : (bytes : List ℕ) (k : ℕ) → tree_below bytes k ≡ leaf → true ≡ divides (patch_tree_below bytes k)
unfolding map_tree divides
divides_leaf bytes k e = sym (ap (λ (t : Tree ℕ). divides (map_tree (patch_numbered (decode bytes)) t)) e)

pub divides_node :
    {bytes : List ℕ} {l : Layout} {k : ℕ} {n : Node} →
    NodeIs bytes l k n →
    IsThree (node_divides bytes n) (divides (patch_tree_below bytes n.positive)) (divides (patch_tree_below bytes n.negative))
    (divides (patch_tree_below bytes k))
unfolding map_tree divides node_divides
divides_node {bytes} {n} is =
    record {
      three_tests =
          ap (λ (t : Tree ℕ). divides (map_tree f t)) is.tree
          ∙ ap₂
          (λ (front back : List Patch).
          every (lies_on s) (map f (range n.patches.first n.patches.count))
          && every (lies_positive s) front
          && every (lies_positive (turned_over s)) back
          && divides (patch_tree_below bytes n.positive)
          && divides (patch_tree_below bytes n.negative))
          (contents_map f (tree_below bytes n.positive)) (contents_map f (tree_below bytes n.negative));
    }
  where
    f : ℕ → Patch
    f = patch_numbered (decode bytes)

    s : model.Plane
    s = plane_of n.a n.b n.c
