-- The eye's side of a plane, and the walk of a node by it.
use mathlib.Core.Path.{◌≡◌, refl, sym, ap, ◌∙◌}
use mathlib.Core.Bool.{Bool, true, false, cond}
use mathlib.Core.List.{List, ◌++◌}
use Prim.Native.Nat.{ℕ}
use lib.IntN.{ℤ, pos}
use lib.Signed.{lt_z, ◌<ℤ◌, ◌≤ℤ◌}
use Rattle.integer.proofs.Order.{lt_lt_z, le_lt_z}
use Rattle.model.specs.Vector.{Vec, Plane, side}
use Rattle.model.specs.Tree.{Tree, node, order}
use Rattle.walk.specs.Near.{NearFirst}
use Rattle.walk.specs.declared.order.Children.{Children}

module _ (s : Plane) (eye : Vec) {z : ℤ} (positive negative : ℕ) (value : z ≡ side s eye) where
  children_at :
      (b : Bool) →
      lt_z z (pos 0) ≡ b →
      NearFirst s eye positive negative (record { near = cond b negative positive; far = cond b positive negative })
  children_at b e = record { near_child = rw (behind); far_child = rw (behind) }
    where
      behind : lt_z (side s eye) (pos 0) ≡ b
      behind = sym (ap (λ (x : ℤ). lt_z x (pos 0)) value) ∙ e

  pub from_behind : z <ℤ pos 0 → NearFirst s eye positive negative (record { near = negative; far = positive })
  from_behind h = children_at true (lt_lt_z h)

  pub from_before : pos 0 ≤ℤ z → NearFirst s eye positive negative (record { near = positive; far = negative })
  from_before h = children_at false (le_lt_z h)

-- the walk of a node: near side, own patches, far side
pub order_node :
    {A : Type 0} (below : ℕ → Tree A) (s : Plane) (own : List A) (positive negative : ℕ) (eye : Vec) (r : Children) →
    NearFirst s eye positive negative r →
    order eye (node s own (below positive) (below negative)) ≡ order eye (below r.near) ++ (own ++ order eye (below r.far))
unfolding order
order_node below s own positive negative eye r h = rw (h.near_child, h.far_child) (go (lt_z (side s eye) (pos 0)))
  where
    go : (b : Bool) →
        cond b (order eye (below negative) ++ (own ++ order eye (below positive))) (order eye (below positive) ++ (own ++ order eye (below negative)))
        ≡ order eye (below (cond b negative positive)) ++ (own ++ order eye (below (cond b positive negative)))
    go true = refl
    go false = refl
