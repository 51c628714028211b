-- A direction that meets a patch is a positive combination of three of its corners, of which one may be chosen.
use mathlib.Core.Path.{◌≡◌, sym, ◌∙◌, ap, subst}
use mathlib.Core.Logic.{◌≢◌}
use mathlib.Core.List.{[], ◌∷◌, Memᴰ}
use lib.Dec.{T}
use lib.IntN.{ℤ, pos, neg_ℤ, ◌+ℤ◌, ◌*ℤ◌}
use lib.Signed.{◌<ℤ◌, ◌≤ℤ◌}
use Rattle.integer.proofs.Ring.{*ℤ_neg_ℤ}
use Rattle.integer.proofs.Identity.{ring, reify, combine₁, combine₃}
use Rattle.integer.proofs.Order.{<→≤}
use Rattle.integer.proofs.Products.{*_pos, *_pos_cancel, *_cancel-≡, sq_pos, neg_of_nonpos, neg_of_pos}
use Rattle.integer.proofs.Signs.{SameSign, WeakSign, same_sym, same-≢, same_scale, same_weak-+, weak_scale}
use Rattle.model.specs.Vector.{Vec, minus, dot}
use Rattle.model.specs.Patch.{Patch, Edge, normal, edges, Proper}
use Rattle.model.specs.Ray.{eye_product, met}
use Rattle.model.proofs.Vectors.{det, det_swap, triangle, cramer}
use Rattle.model.proofs.Rounds.{edge_ends}
use Rattle.model.proofs.Crossing.{crossing}
use Rattle.model.proofs.Patches.{three_corners, first_corner, corner_height, turns, normal_square, Meets, met_says}

-- D d = α m' + β u' + γ w', seen in any direction N, where c' is c − eye, u→w an edge and m another corner: D and α have the sign of the eye
-- product, β and γ that sign or none
record Combination (eye d : Vec) (p : Patch) (m : Vec) : Type 0 where
  edge : Edge
  is_edge : Memᴰ edge (edges p.corners)
  is_other : Memᴰ m edge.others
  D : ℤ
  α : ℤ
  β : ℤ
  γ : ℤ
  D_sign : SameSign (eye_product eye p) D
  α_sign : SameSign (eye_product eye p) α
  β_sign : WeakSign (eye_product eye p) β
  γ_sign : WeakSign (eye_product eye p) γ
  sum :
      (N : Vec) →
      D *ℤ dot d N
      ≡ α *ℤ dot (minus m eye) N +ℤ β *ℤ dot (minus edge.from eye) N +ℤ γ *ℤ dot (minus edge.to eye) N

-- the number of an edge, and of the same edge taken the other way
turn_back : (σ : ℤ) (d a b : Vec) → σ *ℤ det d b a ≡ neg_ℤ (σ *ℤ det d a b)
turn_back σ d a b = ap (σ *ℤ◌) (det_swap d a b) ∙ *ℤ_neg_ℤ σ (det d a b)

-- where k D = σ t with k and t positive, D has the sign of σ
sign_of : {k σ D t : ℤ} → pos 0 <ℤ k → σ ≢ pos 0 → pos 0 <ℤ t → k *ℤ D ≡ σ *ℤ t → SameSign σ D
sign_of {k} {σ} {D} {t} hk hσ ht e =
    record {
      agree =
          *_pos_cancel hk
          (subst (pos 0 <ℤ◌)
          (combine₁ (neg_ℤ σ) e (ring (k ∷ σ ∷ D ∷ t ∷ []) (search reify depth 40 fits 200000, tt)))
          (*_pos (sq_pos hσ) ht));
    }

-- the eye sees an edge and another corner as a triangle that turns by the eye product's sign
pub corner_sign :
    (eye : Vec) {p : Patch} → Proper p → eye_product eye p ≢ pos 0 → {e : Edge} → Memᴰ e (edges p.corners) →
    {m : Vec} → Memᴰ m e.others → Memᴰ m p.corners →
    SameSign (eye_product eye p) (det (minus m eye) (minus e.from eye) (minus e.to eye))
corner_sign eye {p} proper faced {e} l {m} is_other is_corner =
    sign_of (normal_square proper) faced (turns proper l is_other)
    (triangle eye (normal p) m e.from e.to (eye_product eye p)
    (corner_height proper is_corner eye)
    (corner_height proper (edge_ends l).0 eye)
    (corner_height proper (edge_ends l).1 eye))

module _ {eye d : Vec} {p : Patch} (proper : Proper p) (h : Meets eye d p) {m : Vec} (is_corner : Memᴰ m p.corners) where
  -- on which side of the diagonal from m to a corner the ray passes
  abbrev diagonal : Vec → ℤ
  diagonal c = eye_product eye p *ℤ det d (minus m eye) (minus c eye)

  leaving : (e : Edge) → Memᴰ e (edges p.corners) → e.from ≡ m → pos 0 ≤ℤ diagonal e.to
  leaving e l f = <→≤ (subst (λ (c : Vec). pos 0 <ℤ (eye_product eye p *ℤ det d (minus c eye) (minus e.to eye))) f (h.passed l).agree)

  entering : (e : Edge) → Memᴰ e (edges p.corners) → e.to ≡ m → diagonal e.from ≤ℤ pos 0
  entering e l f =
      subst (◌≤ℤ pos 0) (sym (turn_back (eye_product eye p) d (minus e.from eye) (minus m eye)))
      (<→≤ (neg_of_pos (subst (λ (c : Vec). pos 0 <ℤ (eye_product eye p *ℤ det d (minus e.from eye) (minus c eye))) f (h.passed l).agree)))

  -- an edge whose ends the ray passes on different sides, seen along the diagonals from m
  combination : Combination eye d p m
  combination =
      let c = crossing diagonal leaving entering (three_corners proper) is_corner in
      let e = c.edge in
      record {
        edge = e;
        is_edge = c.is_edge;
        is_other = c.is_other;
        D = det (minus m eye) (minus e.from eye) (minus e.to eye);
        α = det d (minus e.from eye) (minus e.to eye);
        β = det d (minus e.to eye) (minus m eye);
        γ = det d (minus m eye) (minus e.from eye);
        D_sign = corner_sign eye proper h.faced c.is_edge c.is_other is_corner;
        α_sign = h.passed c.is_edge;
        β_sign =
            record { agree = subst (pos 0 ≤ℤ◌) (sym (turn_back (eye_product eye p) d (minus m eye) (minus e.to eye))) (neg_of_nonpos c.after) };
        γ_sign = record { agree = c.before };
        sum = cramer (minus m eye) (minus e.from eye) (minus e.to eye) d;
      }

-- ---- planes through the eye
ahead :
    {σ D α β γ x y z k : ℤ} →
    SameSign σ D →
    SameSign σ α →
    WeakSign σ β →
    WeakSign σ γ →
    pos 0 <ℤ x →
    pos 0 ≤ℤ y →
    pos 0 ≤ℤ z →
    D *ℤ k ≡ α *ℤ x +ℤ β *ℤ y +ℤ γ *ℤ z →
    pos 0 <ℤ k
ahead {σ} {D} {α} {β} {γ} {x} {y} {z} {k} hD hα hβ hγ hx hy hz e =
    let total = same_weak-+ (same_weak-+ (same_scale hx hα) (weak_scale hy hβ)) (weak_scale hz hγ) in
    *_pos_cancel hD.agree
    (subst (pos 0 <ℤ◌)
    (combine₁ (neg_ℤ σ) e (ring (σ ∷ D ∷ α ∷ β ∷ γ ∷ x ∷ y ∷ z ∷ k ∷ []) (search reify depth 40 fits 200000, tt)))
    total.agree)

-- a number whose multiple is made of numbers that are 0
pub along :
    {D x y z k : ℤ} (α β γ : ℤ) →
    D ≢ pos 0 →
    x ≡ pos 0 →
    y ≡ pos 0 →
    z ≡ pos 0 →
    D *ℤ k ≡ α *ℤ x +ℤ β *ℤ y +ℤ γ *ℤ z →
    k ≡ pos 0
along {D} {x} {y} {z} {k} α β γ hD hx hy hz e =
    *_cancel-≡ D hD
    (e ∙ combine₃ α hx β hy γ hz (ring (D ∷ α ∷ β ∷ γ ∷ x ∷ y ∷ z ∷ []) (search reify depth 40 fits 200000, tt)))

module _ (eye d : Vec) {p : Patch} (proper : Proper p) (h : T (met eye d p)) (N : Vec) where
  -- a direction that meets a patch goes to the side of such a plane where the patch lies
  pub met_ahead :
      {m : Vec} →
      ((c : Vec) → Memᴰ c p.corners → pos 0 ≤ℤ dot (minus c eye) N) →
      Memᴰ m p.corners →
      pos 0 <ℤ dot (minus m eye) N →
      pos 0 <ℤ dot d N
  met_ahead f l x =
      let c = combination proper ((met_says eye d p).0 h) l in
      ahead c.D_sign c.α_sign c.β_sign c.γ_sign x (f _ (edge_ends c.is_edge).0) (f _ (edge_ends c.is_edge).1) (c.sum N)

  -- and along the plane, if the patch lies in it
  pub met_along : ((c : Vec) → Memᴰ c p.corners → dot (minus c eye) N ≡ pos 0) → dot d N ≡ pos 0
  met_along f =
      let l = first_corner proper in
      let c = combination proper ((met_says eye d p).0 h) l in
      along c.α c.β c.γ (same-≢ (same_sym c.D_sign)) (f _ l) (f _ (edge_ends c.is_edge).0) (f _ (edge_ends c.is_edge).1) (c.sum N)
