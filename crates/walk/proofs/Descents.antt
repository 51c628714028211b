-- From a node down to its children, in the order of the walk.
use mathlib.Core.Path.{◌≡◌, refl, sym, ap, ◌∙◌}
use mathlib.Core.Bool.{Bool, true, false, cond}
use mathlib.Core.List.{List, [], ◌++◌, append_assoc}
use Prim.Native.Nat.{ℕ, ◌+◌, ◌<◌}
use lib.IntN.{pos}
use lib.Signed.{lt_z}
use lib.ListN.{length, length-append}
use Rattle.model.specs.Lists.{range}
use Rattle.model.specs.Vector.{Vec, side}
use Rattle.model.specs.Tree.{Tree, leaf, order}
use Rattle.model.specs.Format.{Scene, decode, number_tree}
use Rattle.model.specs.Questions.{patch_runs_follow, corner_runs_follow, runs_proper}
use Rattle.model.proofs.Tests.{both}
use Rattle.model.proofs.Ranges.{range_length}
use Rattle.geometry.specs.Machine.{plane_of}
use Rattle.format.proofs.Decoded.{patch_count}
use Rattle.format.specs.declared.records.Node.{Node}
use Rattle.format.specs.declared.layout.Layout.{Layout}
use Rattle.checked.specs.Checked.{Checked, tree_below, NodeIs}
use Rattle.walk.specs.Walked.{WholeWalk}
use Rattle.walk.specs.Near.{NearFirst}
use Rattle.walk.specs.declared.order.Children.{Children}
use Rattle.walk.proofs.Whole.{walk_length}
use Rattle.checked.proofs.Nodes.{few_nodes}
use Rattle.walk.proofs.NearSide.{order_node}

-- node k and its children c: both numbers are higher, and the walk at and below k is made of theirs
pub record Descent (bytes : List ℕ) (k : ℕ) (eye : Vec) (first count : ℕ) (c : Children) : Type 0 where
  pub near_above : k < c.near
  pub far_above : k < c.far
  pub order_is :
      order eye (tree_below bytes k) ≡
      order eye (tree_below bytes c.near) ++ (range first count ++ order eye (tree_below bytes c.far))
  pub size :
      length (order eye (tree_below bytes k)) ≡
      length (order eye (tree_below bytes c.near)) + (count + length (order eye (tree_below bytes c.far)))

either_child : (b : Bool) (k m n : ℕ) → k < m → k < n → k < cond b m n
either_child true k m n h h' = h
either_child false k m n h h' = h'

pub descent :
    {bytes : List ℕ} {l : Layout} {k : ℕ} {n : Node} {eye : Vec} {c : Children} →
    NodeIs bytes l k n → NearFirst (plane_of n.a n.b n.c) eye n.positive n.negative c →
    Descent bytes k eye n.patches.first n.patches.count c
descent {bytes} {l} {k} {n} {eye} {c} is near =
    record {
      near_above = rw near.near_child (either_child behind k _ _ is.negative_above is.positive_above);
      far_above = rw near.far_child (either_child behind k _ _ is.positive_above is.negative_above);
      order_is = walk;
      size = ap length walk ∙ rw (length-append, length-append, range_length);
    }
  where
    behind : Bool
    behind = lt_z (side (plane_of n.a n.b n.c) eye) (pos 0)

    own : List ℕ
    own = range n.patches.first n.patches.count

    walk :
        order eye (tree_below bytes k) ≡
        order eye (tree_below bytes c.near) ++ (own ++ order eye (tree_below bytes c.far))
    walk =
        ap (order eye) is.tree
        ∙ order_node (tree_below bytes) (plane_of n.a n.b n.c) own n.positive n.negative eye c near

-- three parts put one behind another are the walk at and below k
pub assembled :
    {bytes : List ℕ} {k : ℕ} {eye : Vec} {first count : ℕ} {c : Children} (o : List ℕ) {o₁ o₂ o₃ : List ℕ} →
    Descent bytes k eye first count c → o₁ ≡ o ++ order eye (tree_below bytes c.near) → o₂ ≡ o₁ ++ range first count →
    o₃ ≡ o₂ ++ order eye (tree_below bytes c.far) → o₃ ≡ o ++ order eye (tree_below bytes k)
assembled {bytes} {eye = eye} {first} {count} {c} o d near own far =
    let below : ℕ → List ℕ = λ (m : ℕ). order eye (tree_below bytes m) in
    far
    ∙ ap (λ (l : List ℕ). l ++ below c.far) (own ∙ ap (λ (l : List ℕ). l ++ range first count) near)
    ∙ append_assoc (o ++ below c.near) (range first count) (below c.far)
    ∙ append_assoc o (below c.near) (range first count ++ below c.far)
    ∙ ap (λ (l : List ℕ). o ++ l) (sym d.order_is)

pub nothing_below : {t : Tree ℕ} (eye : Vec) → t ≡ leaf → order eye t ≡ []
unfolding order
nothing_below eye e = rw e refl

-- ---- the whole tree

module _ (bytes : List ℕ) (l : Layout) (w : Checked bytes l) (eye : Vec) where
  pub whole_length : length (order eye (tree_below bytes 0)) ≡ l.patches
  unfolding number_tree runs_proper
  whole_length =
      let s : Scene = decode bytes in
      walk_length s (few_nodes bytes l w) w.children ((both (patch_runs_follow s) (corner_runs_follow s)).0 w.runs).0 eye
      ∙ patch_count w.laid

  pub whole_walk : {walked : List ℕ} → walked ≡ order eye (tree_below bytes 0) → WholeWalk bytes l eye walked
  unfolding number_tree
  whole_walk h = record { all = ap length h ∙ whole_length; holds = h }
