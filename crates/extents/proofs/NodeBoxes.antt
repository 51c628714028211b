-- The extents of the nodes, from the last one down.
use mathlib.Core.Path.{◌≡◌, sym, subst}
use mathlib.Core.Logic.{◌⊎◌, inl, inr}
use mathlib.Core.List.Memᴰ
use mathlib.Core.List.{List, Memᴰ}
use Prim.Native.Nat.{ℕ, ◌+◌, ◌-◌, ◌≤◌, ◌<◌}
use native.Mathlib.Nat.{eq-or-lt_of_le}
use native.Mathlib.Omega.{arith}
use native.Mathlib.Decide.{dec_lt}
use lib.ListN.{set, length-set}
use lib.Seq.{get_or-set_same, get_or-set_other}
use Rattle.model.specs.Lists.{range}
use Rattle.model.specs.Tree.{contents}
use Rattle.model.specs.Format.{decode, patch_numbered}
use Rattle.model.proofs.Tests.{of_append}
use Rattle.model.proofs.Ranges.{of_range}
use Rattle.format.specs.declared.layout.Layout.{Layout}
use Rattle.format.specs.declared.records.Node.{Node}
use Rattle.checked.specs.Checked.{Checked, tree_below, NodeIs}
use Rattle.extents.specs.Extents.{Widened, Wider, takes_patch, ExtentOf, ExtentsFrom, ChildJoined}
use Rattle.boxes.specs.Enclosed.{Encloses, ExtentBounded, nowhere, extent_at, ChildExtent}
use Rattle.boxes.specs.declared.Extent.{Extent}
use Rattle.checked.proofs.Nodes.{no_node}
use Rattle.extents.proofs.ExtentLaws.{wider_trans, encloses_wider}

-- every patch of a list of numbers is enclosed
abbrev AllIn : List ℕ → Extent → List ℕ → Type 0
AllIn bytes e numbers = (j : ℕ) → Memᴰ j numbers → Encloses e (patch_numbered (decode bytes) j)

module _ {bytes : List ℕ} {l : Layout} {first : ℕ} {boxes : List Extent} (from : ExtentsFrom bytes l first boxes) where
  child_in : (w : Checked bytes l) {k : ℕ} {e r : Extent} → first ≤ k → ChildJoined l.nodes k boxes e r → AllIn bytes r (contents (tree_below bytes k))
  unfolding contents
  child_in w {k} {r = r} h c = go (dec_lt k l.nodes)
    where
      go : Dec (k < l.nodes) → AllIn bytes r (contents (tree_below bytes k))
      go (yes i) = λ j m. encloses_wider (c.wider_child i) ((from.each k h i).encloses j m)
      go (no i) = rw (no_node bytes l w k (omega arith)) (λ j m. absurd (Memᴰ.not-nil m))

  -- the extent of a node's own patches, joined with those of its children
  pub node_enclosed :
      (w : Checked bytes l) {k : ℕ} {n : Node} {none own front r : Extent} →
      first ≤ k + 1 →
      NodeIs bytes l k n →
      Widened Wider ExtentBounded (takes_patch bytes n.patches.first) none own n.patches.count →
      ChildJoined l.nodes n.positive boxes own front →
      ChildJoined l.nodes n.negative boxes front r →
      ExtentOf bytes k r
  unfolding contents
  node_enclosed w {k} {n} {r = r} h is o p q = record { bounded = q.bounded; encloses = rw is.tree (of_append Inside own_numbers own_in (of_append Inside front_numbers front_in back_in)) }
    where
      Inside : ℕ → Type 0
      Inside j = Encloses r (patch_numbered (decode bytes) j)

      own_numbers : List ℕ
      own_numbers = range n.patches.first n.patches.count

      front_numbers : List ℕ
      front_numbers = contents (tree_below bytes n.positive)

      own_in : AllIn bytes r own_numbers
      own_in = of_range Inside n.patches.first n.patches.count (λ i l. encloses_wider (wider_trans p.wider q.wider) (o.each i l))

      front_in : AllIn bytes r front_numbers
      front_in j m = encloses_wider q.wider (child_in w (omega (arith, is.positive_above)) p j m)

      back_in : AllIn bytes r (contents (tree_below bytes n.negative))
      back_in = child_in w (omega (arith, is.negative_above)) q

-- ---- filling the list

module _ {bytes : List ℕ} {l : Layout} where
  pub filling_more :
      {boxes : List Extent} {k : ℕ} {e : Extent} → 0 < k → k ≤ l.nodes →
      ExtentsFrom bytes l k boxes → ExtentOf bytes (k - 1) e → ExtentsFrom bytes l (k - 1) (set boxes (k - 1) e)
  filling_more {boxes} {k} {e} some most f of =
      record { room = omega (arith, length-set boxes (k - 1) e, f.room); each = λ i h m. at i (eq-or-lt_of_le h) m }
    where
      at : (i : ℕ) → (k - 1 ≡ i) ⊎ (k - 1 < i) → i < l.nodes → ExtentOf bytes i (extent_at (set boxes (k - 1) e) i)
      at i (inl is) m =
          subst (λ (n : ℕ). ExtentOf bytes n (extent_at (set boxes (k - 1) e) n)) is
          (subst (ExtentOf bytes (k - 1)) (sym (get_or-set_same boxes (k - 1) e nowhere (omega (arith, f.room)))) of)
      at i (inr h) m = subst (ExtentOf bytes i) (sym (get_or-set_other boxes (k - 1) i e nowhere (λ e. absurd (omega arith)))) (f.each i (omega arith) m)
