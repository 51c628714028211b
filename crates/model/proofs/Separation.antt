-- With the eye in front of a plane or on it, a patch in front of the plane is met before one on it or behind it, and one on it before one behind it.
use mathlib.Core.Path.{◌≡◌, refl, sym, ◌∙◌, ap, ap₂, subst₂}
use mathlib.Core.Logic.{◌⊎◌, inl, inr}
use mathlib.Core.List.{[], ◌∷◌}
use Prim.Native.Nat.{ℕ, ◌*◌, ◌<◌}
use native.Mathlib.Nat.{lt_of_mul-lt-mul_left}
use native.Mathlib.Omega.{arith}
use lib.Dec.{T, ltb→lt, lt→ltb}
use lib.IntN.{ℤ, pos, neg_ℤ, nat_abs, ◌+ℤ◌, ◌-ℤ◌, ◌*ℤ◌, zero-*ℤ}
use lib.Signed.{◌<ℤ◌, ◌≤ℤ◌, <ℤ-≤ℤ_trans, clash_ℤ}
use Rattle.integer.proofs.Identity.{ring, reify, combine₁}
use Rattle.integer.proofs.Order.{<_by, <_diff, ≤_diff, <→≤, ≡→≤, +_nonneg_pos, +_pos_nonneg, +_nonneg, suc-≤, ≤ℤ-<ℤ_trans, Compared, below as less, same, above, compared}
use Rattle.integer.proofs.Products.{*_pos, *_nonneg, *_pos_cancel, pos→≢, neg_of_neg, neg_of_nonpos, sq_pos}
use Rattle.integer.proofs.Signs.{SameSign, same_sym, same-≢, same_refl}
use Rattle.integer.proofs.Magnitude.{size_product, size_positive}
use Rattle.model.specs.Vector.{Vec, Plane, dot, plane_normal, side, turned_over}
use Rattle.model.specs.Patch.{Patch, normal, lies_on, Proper}
use Rattle.model.specs.Ray.{eye_product, met, distance, below}
use Rattle.model.specs.Tree.{lies_positive}
use Rattle.model.proofs.Sides.{side_met, side_met_turned, distance_positive, met_in_front, met_on_plane}

-- ---- fractions of numbers with one sign, by their magnitudes
whole : {a b : ℤ} → SameSign a b → a *ℤ b ≡ pos (nat_abs a * nat_abs b)
whole {a} {b} h = size_positive h.agree ∙ ap pos (size_product a b)

naturals : {m n : ℕ} → pos m <ℤ pos n → m < n
naturals {m} {n} h = ltb→lt m n h.lt

below_by_products :
    {σ δ σ' δ' : ℤ} →
    SameSign σ δ →
    SameSign σ' δ' →
    ((σ *ℤ δ) *ℤ (δ' *ℤ δ')) <ℤ ((σ' *ℤ δ') *ℤ (δ *ℤ δ)) →
    nat_abs σ * nat_abs δ' < nat_abs σ' * nat_abs δ
below_by_products {σ} {δ} {σ'} {δ'} g g' h =
    let square = whole (same_refl (same-≢ (same_sym g))) in
    let square' = whole (same_refl (same-≢ (same_sym g'))) in
    let k = subst₂ ◌<ℤ◌ (ap₂ ◌*ℤ◌ (whole g) square') (ap₂ ◌*ℤ◌ (whole g') square) h in
    lt_of_mul-lt-mul_left (nat_abs δ * nat_abs δ') (omega (arith, naturals k))

-- Along the ray the side number is e + t k, with e the eye's, at or above 0. Of two points at t = σ / δ and t = σ' / δ', the first not behind the
-- plane, the second not in front of it and not both on it, the first is nearer. (Their side numbers stand here times the squares of δ and δ'.)
nearer :
    (e k σ δ σ' δ' : ℤ) →
    pos 0 ≤ℤ e →
    SameSign σ δ →
    SameSign σ' δ' →
    pos 0 ≤ℤ ((e *ℤ δ +ℤ σ *ℤ k) *ℤ δ) →
    ((e *ℤ δ' +ℤ σ' *ℤ k) *ℤ δ') ≤ℤ pos 0 →
    ((e *ℤ δ' +ℤ σ' *ℤ k) *ℤ δ') <ℤ ((e *ℤ δ +ℤ σ *ℤ k) *ℤ δ) →
    nat_abs σ * nat_abs δ' < nat_abs σ' * nat_abs δ
nearer e k σ δ σ' δ' he g g' hp hq h = below_by_products g g' (go (compared (pos 0) k))
  where
    b : pos 0 <ℤ (δ *ℤ δ)
    b = sq_pos (same-≢ (same_sym g))

    b' : pos 0 <ℤ (δ' *ℤ δ')
    b' = sq_pos (same-≢ (same_sym g'))

    -- the difference of the side numbers
    apart : pos 0 <ℤ (k *ℤ ((σ *ℤ δ) *ℤ (δ' *ℤ δ') -ℤ (σ' *ℤ δ') *ℤ (δ *ℤ δ)))
    apart =
        <_by
        (+_pos_nonneg (<_diff h) (+_nonneg (*_nonneg hp (≤_diff (suc-≤ b'))) (*_nonneg (neg_of_nonpos hq) (≤_diff (suc-≤ b)))))
        (ring (e ∷ k ∷ σ ∷ δ ∷ σ' ∷ δ' ∷ []) (search reify depth 40 fits 200000, tt))

    go : Compared (pos 0) k → ((σ *ℤ δ) *ℤ (δ' *ℤ δ')) <ℤ ((σ' *ℤ δ') *ℤ (δ *ℤ δ))
    go (less l) =
        clash_ℤ
        (<_by (+_nonneg_pos (*_nonneg he (<→≤ b')) (*_pos g'.agree l)) (ring (e ∷ k ∷ σ' ∷ δ' ∷ []) (search reify depth 40 fits 200000, tt)))
        hq
    go (same z) =
        absurd
        (pos→≢ apart
        (combine₁ ((σ' *ℤ δ') *ℤ (δ *ℤ δ) -ℤ (σ *ℤ δ) *ℤ (δ' *ℤ δ')) z
        (ring (k ∷ σ ∷ δ ∷ σ' ∷ δ' ∷ []) (search reify depth 40 fits 200000, tt))))
    go (above l) =
        <_by
        (*_pos_cancel {b = (σ' *ℤ δ') *ℤ (δ *ℤ δ) -ℤ (σ *ℤ δ) *ℤ (δ' *ℤ δ')} (neg_of_neg l)
        (<_by apart (ring (k ∷ σ ∷ δ ∷ σ' ∷ δ' ∷ []) (search reify depth 40 fits 200000, tt))))
        refl

-- ---- the laws
-- the side number of the point met, times the square of the distance's denominator
abbrev squared_side : Plane → Vec → Vec → Patch → ℤ
squared_side s eye d p = side_met eye d s p *ℤ dot d (normal p)

module _ (s : Plane) (eye d : Vec) {p : Patch} (proper : Proper p) (h : T (met eye d p)) where
  in_front : T (lies_positive s p) → pos 0 <ℤ squared_side s eye d p
  in_front t = (met_in_front eye d proper h s t).agree

  on_plane : T (lies_on s p) → squared_side s eye d p ≡ pos 0
  on_plane t = ap (◌*ℤ dot d (normal p)) (met_on_plane eye d proper h s t) ∙ zero-*ℤ (dot d (normal p))

  behind : T (lies_positive (turned_over s) p) → squared_side s eye d p <ℤ pos 0
  behind t =
      <_by (met_in_front eye d proper h (turned_over s) t).agree
      (turn (side_met eye d s p) (dot d (normal p)) (side_met_turned eye d s p))
    where
      turn : (S δ : ℤ) {S' : ℤ} → S' ≡ neg_ℤ S → pos 0 -ℤ S *ℤ δ ≡ S' *ℤ δ
      turn S δ {S'} e = combine₁ (neg_ℤ δ) e (ring (S ∷ δ ∷ S' ∷ []) (search reify depth 40 fits 200000, tt))

  not_in_front : T (lies_on s p) ⊎ T (lies_positive (turned_over s) p) → squared_side s eye d p ≤ℤ pos 0
  not_in_front (inl t) = ≡→≤ (on_plane t)
  not_in_front (inr t) = <→≤ (behind t)

module _
    (s : Plane) (eye d : Vec) (p q : Patch) (P : Proper p) (Q : Proper q) (hp : T (met eye d p)) (hq : T (met eye d q))
    (e : pos 0 ≤ℤ side s eye)
  where
    separated :
        pos 0 ≤ℤ squared_side s eye d p →
        squared_side s eye d q ≤ℤ pos 0 →
        squared_side s eye d q <ℤ squared_side s eye d p →
        T (below (distance eye d p) (distance eye d q))
    separated l r k =
        lt→ltb _ _
        (nearer (side s eye) (dot d (plane_normal s)) (eye_product eye p) (dot d (normal p)) (eye_product eye q) (dot d (normal q)) e
        (distance_positive eye d P hp) (distance_positive eye d Q hq) l r k)

    -- what is in front of the plane is met before what is on it or behind it
    pub front_first : T (lies_positive s p) → T (lies_on s q) ⊎ T (lies_positive (turned_over s) q) → T (below (distance eye d p) (distance eye d q))
    front_first t u =
        let l = in_front s eye d P hp t in
        let r = not_in_front s eye d Q hq u in
        separated (<→≤ l) r (≤ℤ-<ℤ_trans r l)

    -- what is on the plane is met before what is behind it
    pub own_before_back : T (lies_on s p) → T (lies_positive (turned_over s) q) → T (below (distance eye d p) (distance eye d q))
    own_before_back t u =
        let l = ≡→≤ (sym (on_plane s eye d P hp t)) in
        let r = behind s eye d Q hq u in
        separated l (<→≤ r) (<ℤ-≤ℤ_trans r l)
