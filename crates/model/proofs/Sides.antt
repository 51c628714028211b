-- Where a ray meets a patch: at a distance above 0, and on the side of a plane where the patch's corners lie.
use mathlib.Core.Path.{◌≡◌, sym, ◌∙◌, ap, subst}
use mathlib.Core.Logic.{◌↔◌}
use mathlib.Core.List.{[], ◌∷◌, Memᴰ}
use lib.Dec.{T}
use lib.IntN.{ℤ, pos, neg_ℤ, ◌+ℤ◌, ◌-ℤ◌, ◌*ℤ◌, *ℤ-zero}
use lib.Signed.{lt_z, le_z, ◌<ℤ◌, ◌≤ℤ◌, lt_z_yes, le_z_yes}
use Rattle.integer.proofs.Ring.{one-*ℤ}
use Rattle.integer.proofs.Identity.{ring, reify, combine₂}
use Rattle.integer.proofs.Order.{<→≤}
use Rattle.integer.proofs.Products.{*_pos, *_nonneg, sq_pos, neg_of_neg}
use Rattle.integer.proofs.Signs.{SameSign, same_sym, same_trans}
use Rattle.model.specs.Lists.{every, any}
use Rattle.model.specs.Vector.{Vec, Plane, minus, dot, is_zero, plane_normal, side, turned_over, plus, times}
use Rattle.model.specs.Patch.{Patch, corner, normal, lies_on, Proper}
use Rattle.model.specs.Ray.{eye_product, met}
use Rattle.model.specs.Tree.{lies_positive}
use Rattle.model.proofs.Tests.{both, every_true, any_true}
use Rattle.model.proofs.Vectors.{det_swap, dot_sum, dot_times, side_turned, side_from}
use Rattle.model.proofs.Patches.{is_zero_lem, first_corner, corner_height, met_says}
use Rattle.model.proofs.Fan.{met_ahead, met_along}

-- ---- what the tests of question 9 say
pub lies_on_says : (s : Plane) (p : Patch) → T (lies_on s p) ↔ ((c : Vec) → Memᴰ c p.corners → side s c ≡ pos 0)
unfolding lies_on
lies_on_says s p =
    (λ t c m. (is_zero_lem (side s c)).0 (law.0 t c m), λ f. law.1 (λ c m. (is_zero_lem (side s c)).1 (f c m)))
  where
    law : T (every (λ (c : Vec). is_zero (side s c)) p.corners) ↔ ((c : Vec) → Memᴰ c p.corners → T (is_zero (side s c)))
    law = every_true (λ (c : Vec). is_zero (side s c)) p.corners

record InFront (s : Plane) (p : Patch) : Type 0 where
  not_behind : {c : Vec} → Memᴰ c p.corners → pos 0 ≤ℤ side s c
  m : Vec
  is_corner : Memᴰ m p.corners
  before : pos 0 <ℤ side s m

in_front_says : (s : Plane) (p : Patch) → T (lies_positive s p) → InFront s p
unfolding lies_positive
in_front_says s p t =
    let parts = (both (every (λ (c : Vec). le_z (pos 0) (side s c)) p.corners) (any (λ (c : Vec). lt_z (pos 0) (side s c)) p.corners)).0 t in
    let found = (any_true (λ (c : Vec). lt_z (pos 0) (side s c)) p.corners).0 parts.1 in
    record {
      not_behind = λ {c} l. le_z_yes ((every_true (λ (c : Vec). le_z (pos 0) (side s c)) p.corners).0 parts.0 c l);
      m = found.0;
      is_corner = found.1;
      before = lt_z_yes found.2;
    }

-- ---- the side on which a patch is met
-- The side number of the point where the ray's line meets the patch's plane, times the denominator of the distance. (That point, times that
-- denominator δ, is δ eye + σ d.)
abbrev pub side_met : Vec → Vec → Plane → Patch → ℤ
side_met eye d s p = side s eye *ℤ dot d (normal p) +ℤ eye_product eye p *ℤ dot d (plane_normal s)

-- the normal of the plane through the eye and through the line where the patch's plane meets s, times k
abbrev through : Vec → Plane → Patch → ℤ → Vec
through eye s p k = plus (times (k *ℤ side s eye) (normal p)) (times (k *ℤ eye_product eye p) (plane_normal s))

through_met : (eye d : Vec) (s : Plane) (p : Patch) (k : ℤ) → dot d (through eye s p k) ≡ k *ℤ side_met eye d s p
through_met eye d s p k =
    dot_sum d (normal p) (plane_normal s) (k *ℤ side s eye) (k *ℤ eye_product eye p)
    ∙ outside k (side s eye) (eye_product eye p) (dot d (normal p)) (dot d (plane_normal s))
  where
    outside : (k e σ x y : ℤ) → (k *ℤ e) *ℤ x +ℤ (k *ℤ σ) *ℤ y ≡ k *ℤ (e *ℤ x +ℤ σ *ℤ y)
    outside k e σ x y = ring (k ∷ e ∷ σ ∷ x ∷ y ∷ []) (search reify depth 40 fits 200000, tt)

through_corner :
    (eye : Vec) (s : Plane) {p : Patch} →
    Proper p →
    (k : ℤ) {c : Vec} →
    Memᴰ c p.corners →
    dot (minus c eye) (through eye s p k) ≡ (k *ℤ eye_product eye p) *ℤ side s c
through_corner eye s {p} proper k {c} l =
    dot_sum (minus c eye) (normal p) (plane_normal s) (k *ℤ side s eye) (k *ℤ eye_product eye p)
    ∙ seen k (side s eye) (eye_product eye p) (side s c) (corner_height proper l eye) (side_from s eye c)
  where
    seen : (k e σ S : ℤ) {x y : ℤ} → x ≡ σ → y ≡ S -ℤ e → (k *ℤ e) *ℤ x +ℤ (k *ℤ σ) *ℤ y ≡ (k *ℤ σ) *ℤ S
    seen k e σ S {x} {y} p q =
        combine₂ (k *ℤ e) p (k *ℤ σ) q (ring (k ∷ e ∷ σ ∷ S ∷ x ∷ y ∷ []) (search reify depth 40 fits 200000, tt))

module _ (eye d : Vec) {p : Patch} (proper : Proper p) (h : T (met eye d p)) where
  square : pos 0 <ℤ (eye_product eye p *ℤ eye_product eye p)
  square = sq_pos ((met_says eye d p).0 h).faced

  -- the distance is above 0: its two numbers have one sign
  pub distance_positive : SameSign (eye_product eye p) (dot d (normal p))
  distance_positive =
      record {
        agree =
            subst (pos 0 <ℤ◌) (dot_times d (normal p) (eye_product eye p))
            (met_ahead eye d proper h (times (eye_product eye p) (normal p)) (λ c l. <→≤ (up c l)) (first_corner proper) (up (corner p 0) (first_corner proper)));
      }
    where
      up : (c : Vec) → Memᴰ c p.corners → pos 0 <ℤ dot (minus c eye) (times (eye_product eye p) (normal p))
      up c l =
          subst (pos 0 <ℤ◌)
          (sym (dot_times (minus c eye) (normal p) (eye_product eye p) ∙ ap (eye_product eye p *ℤ◌) (corner_height proper l eye)))
          square

  -- a patch in front of a plane is met in front of it
  pub met_in_front : (s : Plane) → T (lies_positive s p) → SameSign (side_met eye d s p) (dot d (normal p))
  met_in_front s t =
      let f = in_front_says s p t in
      same_trans
      (same_sym
      (record {
        agree =
            subst (pos 0 <ℤ◌) (through_met eye d s p (eye_product eye p))
            (met_ahead eye d proper h (through eye s p (eye_product eye p))
            (λ c l. subst (pos 0 ≤ℤ◌) (sym (through_corner eye s proper (eye_product eye p) l)) (*_nonneg (<→≤ square) (f.not_behind l)))
            f.is_corner
            (subst (pos 0 <ℤ◌) (sym (through_corner eye s proper (eye_product eye p) f.is_corner)) (*_pos square f.before)));
      }))
      distance_positive

  -- a patch on a plane is met on it
  pub met_on_plane : (s : Plane) → T (lies_on s p) → side_met eye d s p ≡ pos 0
  met_on_plane s t =
      sym (through_met eye d s p (pos 1) ∙ one-*ℤ (side_met eye d s p))
      ∙ met_along eye d proper h (through eye s p (pos 1))
      (λ c l.
      through_corner eye s proper (pos 1) l
      ∙ ap ((pos 1 *ℤ eye_product eye p) *ℤ◌) ((lies_on_says s p).0 t c l)
      ∙ *ℤ-zero (pos 1 *ℤ eye_product eye p))

-- ---- the plane turned over
pub side_met_turned : (eye d : Vec) (s : Plane) (p : Patch) → side_met eye d (turned_over s) p ≡ neg_ℤ (side_met eye d s p)
side_met_turned eye d s p =
    opposite (side s eye) (dot d (plane_normal s)) (dot d (normal p)) (eye_product eye p) (side_turned s eye)
    (det_swap d (minus s.b s.a) (minus s.c s.a))
  where
    opposite : (e k δ σ : ℤ) {e' k' : ℤ} → e' ≡ neg_ℤ e → k' ≡ neg_ℤ k → e' *ℤ δ +ℤ σ *ℤ k' ≡ neg_ℤ (e *ℤ δ +ℤ σ *ℤ k)
    opposite e k δ σ {e'} {k'} p q = combine₂ δ p σ q (ring (e ∷ k ∷ δ ∷ σ ∷ e' ∷ k' ∷ []) (search reify depth 40 fits 200000, tt))

pub lies_on_turned : (s : Plane) (p : Patch) → T (lies_on s p) → T (lies_on (turned_over s) p)
lies_on_turned s p t = (lies_on_says (turned_over s) p).1 (λ c m. side_turned s c ∙ ap neg_ℤ ((lies_on_says s p).0 t c m))

pub eye_turned : (s : Plane) (eye : Vec) → T (lt_z (side s eye) (pos 0)) → pos 0 ≤ℤ side (turned_over s) eye
eye_turned s eye t = subst (pos 0 ≤ℤ◌) (sym (side_turned s eye)) (<→≤ (neg_of_neg {a = side s eye} (lt_z_yes t)))
