-- What the walk of the whole tree is.
use Rattle.std.specs.Prelude.{◌≡◌, List, ℕ, length}
use Rattle.model.specs.Vector.{Vec}
use Rattle.model.specs.Tree.{order}
use Rattle.model.specs.Format.{decode, number_tree}
use Rattle.format.specs.declared.layout.Layout.{Layout}

-- the patch numbers of the whole tree, all patches of them
pub record WholeWalk (bytes : List ℕ) (l : Layout) (eye : Vec) (walked : List ℕ) : Type 0 where
  pub all : length walked ≡ l.patches
  pub holds : walked ≡ order eye (number_tree (decode bytes))
