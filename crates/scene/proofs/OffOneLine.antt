-- Question 4, node by node.
use mathlib.Core.Path.{◌≡◌, sym, ap, subst, ◌∙◌}
use mathlib.Core.Logic.{◌⊎◌, inl, inr}
use mathlib.Core.Bool.{true, not, ◌&&◌, and-false}
use mathlib.Core.List.{List}
use Prim.Native.Nat.{ℕ, ◌<◌}
use native.Mathlib.Decide.{ℕ_discrete}
use lib.Dec.{T, eqb}
use borrow.Author.Tests.{eq-eqb, ne_eqb}
use mir.Syntax.{w64}
use mir.Val.{of_z}
use Rattle.model.specs.Vector.{Vec, Plane, plane_normal, is_zero}
use Rattle.model.specs.Format.{NodeRecord, decode}
use Rattle.model.specs.Questions.{off_one_line, coordinates_in_range}
use Rattle.geometry.specs.declared.Vector.{Vector}
use Rattle.geometry.specs.Machine.{VectorIs}
use Rattle.geometry.proofs.Zeros.{zero_word, other_word}
use Rattle.format.specs.declared.layout.Layout.{Layout}
use Rattle.format.specs.declared.records.Node.{Node}
use Rattle.format.specs.Machine.{node_of}
use Rattle.format.specs.Layout.{LaidOut, node_number}
use Rattle.model.specs.Bounds.{PlaneWithin}
use Rattle.format.proofs.InRange.{node_within}

-- ---- one plane, by its normal
module _ (s : Plane) {r : Vector} (is : VectorIs 800000000 (plane_normal s) r) where
  normal_test : off_one_line s ≡ not (is_zero r.x && is_zero r.y && is_zero r.z)
  unfolding off_one_line
  normal_test = ap (λ (n : Vec). not (is_zero n.x && is_zero n.y && is_zero n.z)) (sym is.value)

  pub not_both_zero : (of_z w64 r.x ≡ 0 → ⊥) ⊎ ((of_z w64 r.x ≡ 0) × (of_z w64 r.y ≡ 0 → ⊥)) → true ≡ off_one_line s
  not_both_zero (inl h) = rw (normal_test, other_word r.x h)
  not_both_zero (inr h) = rw (normal_test, other_word r.y h.1) (rw and-false)

  third_zero : eqb (of_z w64 r.z) 0 ≡ is_zero r.z
  third_zero = go (ℕ_discrete (of_z w64 r.z) 0)
    where
      go : Dec (of_z w64 r.z ≡ 0) → eqb (of_z w64 r.z) 0 ≡ is_zero r.z
      go (yes e) = eq-eqb (of_z w64 r.z) 0 e ∙ sym (zero_word tt is.bounded.z_within e)
      go (no h) = ne_eqb (of_z w64 r.z) 0 h ∙ sym (other_word r.z h)

  pub third_decides : of_z w64 r.x ≡ 0 → of_z w64 r.y ≡ 0 → not (eqb (of_z w64 r.z) 0) ≡ off_one_line s
  third_decides ex ey = rw (normal_test, zero_word tt is.bounded.x_within ex, zero_word tt is.bounded.y_within ey) (ap not third_zero)

-- ---- the table
module _ {bytes : List ℕ} {l : Layout} (laid : LaidOut bytes l) where
  pub node_bounded :
      {k : ℕ} {n : Node} →
      T (coordinates_in_range (decode bytes)) →
      k < l.nodes →
      node_of n ≡ node_number bytes k →
      PlaneWithin 10000 (node_of n).plane
  node_bounded {k} t h e = subst (λ (r : NodeRecord). PlaneWithin 10000 r.plane) (sym e) (node_within laid t k h)
