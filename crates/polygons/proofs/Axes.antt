-- Points of one plane turn as their projections do along an axis that the plane is not parallel to.
use mathlib.Core.Path.{◌≡◌, sym, ap, ◌∙◌, subst}
use mathlib.Core.Logic.{◌⊎◌, inl, inr, ◌≢◌}
use mathlib.Core.List.{[], ◌∷◌}
use lib.IntN.{ℤ, pos, ◌*ℤ◌}
use lib.Signed.{lt_z, ◌<ℤ◌, ◌≤ℤ◌, clash_ℤ}
use Rattle.integer.proofs.Identity.{ring, reify}
use Rattle.integer.proofs.Order.{<→≤, <_or-≥, lt_lt_z, le_lt_z}
use Rattle.integer.proofs.Products.{*_pos, *_nonneg_nonpos, *_nonpos_nonneg, sq_pos, squares}
use Rattle.model.specs.Vector.{Vec, Plane, vec, origin, minus, dot, cross, plane_normal, side}
use Rattle.model.proofs.Vectors.{parallel}
use Rattle.projection.specs.declared.Axis.{Axis}
use Rattle.projection.specs.declared.Axis.TheVariants.{X, Y, Z}
use Rattle.projection.specs.Projected.{along, across, turn_part}

abbrev component : Axis → Vec → Vec
component X n = vec n.x (pos 0) (pos 0)
component Y n = vec (pos 0) n.y (pos 0)
component Z n = vec (pos 0) (pos 0) n.z

abbrev projected_turn : Axis → Vec → Vec → Vec → Vec → ℤ
projected_turn a n u v w = along a n *ℤ turn_part (across a u) (across a v) (across a w)

component_turn : (a : Axis) (n u v w : Vec) → projected_turn a n u v w ≡ dot (component a n) (cross (minus v u) (minus w u))
component_turn X n u v w =
    ring (n.x ∷ u.x ∷ u.y ∷ u.z ∷ v.x ∷ v.y ∷ v.z ∷ w.x ∷ w.y ∷ w.z ∷ []) (search reify depth 40 fits 200000, tt)
component_turn Y n u v w =
    ring (n.y ∷ u.x ∷ u.y ∷ u.z ∷ v.x ∷ v.y ∷ v.z ∷ w.x ∷ w.y ∷ w.z ∷ []) (search reify depth 40 fits 200000, tt)
component_turn Z n u v w =
    ring (n.z ∷ u.x ∷ u.y ∷ u.z ∷ v.x ∷ v.y ∷ v.z ∷ w.x ∷ w.y ∷ w.z ∷ []) (search reify depth 40 fits 200000, tt)

component_square : (a : Axis) (n : Vec) → dot (component a n) n ≡ along a n *ℤ along a n
component_square X n = ring (n.x ∷ n.y ∷ n.z ∷ []) (search reify depth 40 fits 200000, tt)
component_square Y n = ring (n.x ∷ n.y ∷ n.z ∷ []) (search reify depth 40 fits 200000, tt)
component_square Z n = ring (n.x ∷ n.y ∷ n.z ∷ []) (search reify depth 40 fits 200000, tt)

-- The plane is not parallel to the axis, or it is none: its three points are on one line.
pub data Shown (a : Axis) (n : Vec) : Type 0 where
  slanted : along a n ≢ pos 0 → Shown a n
  no_plane : n ≡ origin → Shown a n

square_above : (a : Axis) (n : Vec) → along a n ≢ pos 0 → pos 0 <ℤ dot n n
square_above a n f = go (squares n.x n.y n.z)
  where
    part_zero : (a : Axis) → (n.x ≡ pos 0) × (n.y ≡ pos 0) × (n.z ≡ pos 0) → along a n ≡ pos 0
    part_zero X (p, q, r) = p
    part_zero Y (p, q, r) = q
    part_zero Z (p, q, r) = r

    go : (pos 0 <ℤ dot n n) ⊎ ((n.x ≡ pos 0) × (n.y ≡ pos 0) × (n.z ≡ pos 0)) → pos 0 <ℤ dot n n
    go (inl h) = h
    go (inr z) = absurd (f (part_zero a z))

-- numbers of which a positive multiple is the same
same_sign : {a b : ℤ} (x y : ℤ) → pos 0 <ℤ a → pos 0 <ℤ b → a *ℤ x ≡ y *ℤ b → lt_z (pos 0) x ≡ lt_z (pos 0) y
same_sign x y ha hb e = go (<_or-≥ (pos 0) x) (<_or-≥ (pos 0) y)
  where
    go : (pos 0 <ℤ x) ⊎ (x ≤ℤ pos 0) → (pos 0 <ℤ y) ⊎ (y ≤ℤ pos 0) → lt_z (pos 0) x ≡ lt_z (pos 0) y
    go (inl h) (inl k) = lt_lt_z h ∙ sym (lt_lt_z k)
    go (inl h) (inr k) = clash_ℤ (*_pos ha h) (subst (λ (z : ℤ). z ≤ℤ pos 0) (sym e) (*_nonpos_nonneg k (<→≤ hb)))
    go (inr h) (inl k) = clash_ℤ (subst (λ (z : ℤ). pos 0 <ℤ z) (sym e) (*_pos k hb)) (*_nonneg_nonpos (<→≤ ha) h)
    go (inr h) (inr k) = le_lt_z h ∙ sym (le_lt_z k)

-- without a plane both numbers are 0
no_turn : (a : Axis) (u v w : Vec) → projected_turn a origin u v w ≡ dot origin (cross (minus v u) (minus w u))
no_turn X u v w = component_turn X origin u v w
no_turn Y u v w = component_turn Y origin u v w
no_turn Z u v w = component_turn Z origin u v w

pub turns_as_projected :
    (a : Axis) (s t : Plane) →
    side s t.a ≡ pos 0 →
    side s t.b ≡ pos 0 →
    side s t.c ≡ pos 0 →
    Shown a (plane_normal s) →
    lt_z (pos 0) (along a (plane_normal s) *ℤ turn_part (across a t.a) (across a t.b) (across a t.c))
    ≡ lt_z (pos 0) (dot (plane_normal s) (plane_normal t))
turns_as_projected a s t ea eb ec (slanted f) =
    let n : Vec = plane_normal s in
    ap (lt_z (pos 0)) (component_turn a n t.a t.b t.c)
    ∙ same_sign (dot (component a n) (plane_normal t)) (dot n (plane_normal t)) (square_above a n f) (subst (λ (z : ℤ). pos 0 <ℤ z) (sym (component_square a n)) (sq_pos f))
    (parallel s t ea eb ec (component a n))
turns_as_projected a s t ea eb ec (no_plane e) =
    ap (λ (n : Vec). lt_z (pos 0) (projected_turn a n t.a t.b t.c)) e
    ∙ ap (lt_z (pos 0)) (no_turn a t.a t.b t.c)
    ∙ ap (λ (n : Vec). lt_z (pos 0) (dot n (plane_normal t))) (sym e)
