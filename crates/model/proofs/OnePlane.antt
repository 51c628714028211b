-- Patches on one plane are met at one distance, and with the eye on the plane they are not met at all.
use mathlib.Core.Path.{◌≡◌, sym, ◌∙◌, ap, ap₂}
use mathlib.Core.Logic.{◌⊎◌, inl, inr}
use mathlib.Core.Bool.{not, ◌&&◌}
use mathlib.Core.List.{[], ◌∷◌}
use native.Mathlib.Omega.{arith}
use lib.Dec.{T, T_not, not_T}
use lib.IntN.{ℤ, pos, neg_ℤ, ◌+ℤ◌, ◌-ℤ◌, ◌*ℤ◌, *ℤ-zero}
use lib.Signed.{◌<ℤ◌}
use Rattle.integer.proofs.Identity.{ring, reify, combine₂}
use Rattle.integer.proofs.Products.{pos→≢, squares, *_cancel-≡}
use Rattle.model.specs.Vector.{Vec, Plane, minus, dot, is_zero, plane_normal, side}
use Rattle.model.specs.Patch.{Patch, corner, patch_plane, normal, lies_on, Proper}
use Rattle.model.specs.Ray.{eye_product, met, distance, below}
use Rattle.model.specs.Questions.{off_one_line}
use Rattle.model.proofs.Tests.{both}
use Rattle.model.proofs.Vectors.{parallel, side_from}
use Rattle.model.proofs.Patches.{is_zero_lem, corner_mem, first_corner, met_says}
use Rattle.model.proofs.Sides.{lies_on_says, met_on_plane}
use Rattle.model.proofs.Precedes.{equal_not_below}

-- three points off one line have a normal that is not zero
normal_off_line : (s : Plane) → T (off_one_line s) → pos 0 <ℤ dot (plane_normal s) (plane_normal s)
unfolding off_one_line
normal_off_line s t = go (squares n.x n.y n.z)
  where
    n : Vec
    n = plane_normal s

    go : (pos 0 <ℤ dot n n) ⊎ ((n.x ≡ pos 0) × (n.y ≡ pos 0) × (n.z ≡ pos 0)) → pos 0 <ℤ dot n n
    go (inl h) = h
    go (inr (a, b, c)) =
        absurd
        (T_not (is_zero n.x && is_zero n.y && is_zero n.z) t
        ((both (is_zero n.x && is_zero n.y) (is_zero n.z)).1
        ((both (is_zero n.x) (is_zero n.y)).1 ((is_zero_lem n.x).1 a, (is_zero_lem n.y).1 b), (is_zero_lem n.z).1 c)))

-- A patch on a plane with the eye is seen edge_on.
edge_on : (s : Plane) (eye : Vec) {p : Patch} → Proper p → T (off_one_line s) → T (lies_on s p) → side s eye ≡ pos 0 → eye_product eye p ≡ pos 0
edge_on s eye {p} proper off t e =
    let on = (lies_on_says s p).0 t in
    *_cancel-≡ (dot (plane_normal s) (plane_normal s)) (pos→≢ (normal_off_line s off))
    (parallel s (patch_plane p)
    (on (corner p 0) (corner_mem proper 0 (omega arith)))
    (on (corner p 1) (corner_mem proper 1 (omega arith)))
    (on (corner p 2) (corner_mem proper 2 (omega arith)))
    (minus (corner p 0) eye)
    ∙ ap (dot (plane_normal s) (normal p) *ℤ◌) (side_from s eye (corner p 0) ∙ ap₂ ◌-ℤ◌ (on (corner p 0) (first_corner proper)) e)
    ∙ *ℤ-zero (dot (plane_normal s) (normal p))
    ∙ sym (*ℤ-zero (dot (plane_normal s) (plane_normal s))))

-- So it is not met.
plane_unmet :
    (s : Plane) (eye d : Vec) {p : Patch} →
    Proper p →
    T (off_one_line s) →
    T (lies_on s p) →
    side s eye ≡ pos 0 →
    T (met eye d p) →
    ⊥
plane_unmet s eye d {p} proper off t e h = ((met_says eye d p).0 h).faced (edge_on s eye proper off t e)

module _
    (s : Plane) (eye d : Vec) (p q : Patch) (P : Proper p) (Q : Proper q) (hp : T (met eye d p)) (hq : T (met eye d q))
    (off : T (off_one_line s)) (t : T (lies_on s p)) (u : T (lies_on s q))
  where
    -- the two distances are equal, cross-multiplied
    one_distance : eye_product eye p *ℤ dot d (normal q) ≡ eye_product eye q *ℤ dot d (normal p)
    one_distance =
        *_cancel-≡ (side s eye) (λ e. plane_unmet s eye d P off t e hp)
        (cancel (side s eye) (dot d (plane_normal s)) (eye_product eye p) (dot d (normal p)) (eye_product eye q) (dot d (normal q))
        (met_on_plane eye d P hp s t) (met_on_plane eye d Q hq s u))
      where
        cancel : (e k σ δ σ' δ' : ℤ) → e *ℤ δ +ℤ σ *ℤ k ≡ pos 0 → e *ℤ δ' +ℤ σ' *ℤ k ≡ pos 0 → e *ℤ (σ *ℤ δ') ≡ e *ℤ (σ' *ℤ δ)
        cancel e k σ δ σ' δ' f g =
            combine₂ (neg_ℤ σ') f σ g (ring (e ∷ k ∷ σ ∷ δ ∷ σ' ∷ δ' ∷ []) (search reify depth 40 fits 200000, tt))

    pub level : T (not (below (distance eye d p) (distance eye d q)))
    level = not_T (below (distance eye d p) (distance eye d q)) (equal_not_below (distance eye d p) (distance eye d q) one_distance)
