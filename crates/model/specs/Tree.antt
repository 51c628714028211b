-- The tree of planes, its walk front to back, and question 9.
use Rattle.std.specs.Prelude.{Bool, true, cond, ◌&&◌, List, [], ◌++◌, map, pos}
use Rattle.std.specs.Int.Signed.{lt_z, le_z}
use Rattle.model.specs.Lists.{every, any}
use Rattle.model.specs.Vector.{Vec, Plane, side, turned_over}
use Rattle.model.specs.Patch.{Patch, lies_on}

-- a node has its plane, its own patches (or their numbers) as listed, what is in or below its positive child, and what is in or below its negative child
pub data Tree (A : Type 0) : Type 0 where
  leaf : Tree A
  node : Plane → List A → Tree A → Tree A → Tree A

-- all that the tree holds
unfoldable pub contents : {A : Type 0} → Tree A → List A
contents leaf = []
contents (node s own positive negative) = own ++ (contents positive ++ contents negative)

-- the same tree with another thing in place of each
unfoldable pub map_tree : {A B : Type 0} → (A → B) → Tree A → Tree B
map_tree f leaf = leaf
map_tree f (node s own positive negative) = node s (map f own) (map_tree f positive) (map_tree f negative)

-- "The side holding the eye is walked first, then the node's own patches as listed, then the other side. With the eye on the plane the positive side is
-- walked first."
unfoldable pub order : {A : Type 0} → Vec → Tree A → List A
order eye leaf = []
order eye (node s own positive negative) =
    cond (lt_z (side s eye) (pos 0))
    (order eye negative ++ (own ++ order eye positive))
    (order eye positive ++ (own ++ order eye negative))

-- "no corner on the negative side and at least one on the positive"; the mirror of this is the same of the plane turned over
unfoldable pub lies_positive : Plane → Patch → Bool
lies_positive s p =
    every (λ (c : Vec). le_z (pos 0) (side s c)) p.corners && any (λ (c : Vec). lt_z (pos 0) (side s c)) p.corners

-- "Has each patch of a node all corners on the node's plane, each patch in or below its positive child no corner on the negative side and at least one on
-- the positive, and the mirror of this in or below the negative child?"
unfoldable pub divides : Tree Patch → Bool
divides leaf = true
divides (node s own positive negative) =
    every (lies_on s) own
    && every (lies_positive s) (contents positive)
    && every (lies_positive (turned_over s)) (contents negative)
    && divides positive
    && divides negative
