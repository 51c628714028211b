-- The parts of question 5, and how often each node is named as a child.
use Rattle.std.specs.Prelude.{◌≡◌, Bool, ◌&&◌, List, ℕ, ◌-◌, ◌<◌, eqb, length, get_or}
use Rattle.model.specs.Lists.{every, range, add_if, occurrences}
use Rattle.model.specs.Format.{NodeRecord, Scene}
use Rattle.model.specs.Questions.{proper_child, every_node, children}

-- the children of node k come after it
abbrev pub proper_children : ℕ → ℕ → NodeRecord → Bool
proper_children node_count k n = proper_child node_count k n.positive && proper_child node_count k n.negative

abbrev pub children_in_order : Scene → Bool
children_in_order s = every_node (proper_children (length s.nodes)) 0 s.nodes

-- each number but 0 stands once
abbrev pub each_once : List ℕ → ℕ → Bool
each_once times nodes = every (λ (k : ℕ). eqb (get_or times k 0) 1) (range 1 (nodes - 1))

abbrev pub named_once : Scene → Bool
named_once s =
    every (λ (k : ℕ). eqb (occurrences k (children s.nodes)) 1) (range 1 (length s.nodes - 1))

-- the counts after a child is named once more
pub record OneMore (child : ℕ) (before after : List ℕ) : Type 0 where
  pub long : length after ≡ length before
  pub counted : (j : ℕ) → j < 1024 → get_or after j 0 ≡ add_if (eqb child j) (get_or before j 0)

-- the counts of all namings
pub record TimesNamed (s : Scene) (times : List ℕ) : Type 0 where
  pub times_named : (j : ℕ) → j < 1024 → get_or times j 0 ≡ occurrences j (children s.nodes)
