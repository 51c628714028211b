-- The point where a line meets a patch: the patch covers it, and on a generic line whatever patch covers it is met there, at the same distance. Here "edges and
-- corners counted in" comes to the same as "strictly inside": such a line passes through no edge.
use mathlib.Core.Path.{◌≡◌, sym, ◌∙◌, ap, subst}
use mathlib.Core.Logic.{◌≢◌, ◌⊎◌, inl, inr}
use mathlib.Core.List.{[], ◌∷◌, Memᴰ}
use Prim.Native.Nat.{ℕ, ◌<◌}
use lib.Dec.{T, ltb→lt}
use lib.IntN.{ℤ, pos, neg_ℤ, nat_abs, ◌-ℤ◌, ◌*ℤ◌, *ℤ-zero}
use lib.Signed.{◌<ℤ◌, ◌≤ℤ◌}
use Rattle.integer.proofs.Identity.{ring, reify, by_zero, combine₁, combine₂}
use Rattle.integer.proofs.Order.{≤_by, <→≤}
use Rattle.integer.proofs.Products.{*_pos, *_nonneg, *_pos_cancel, *_nonneg_cancel, *_cancel-≡, sq_pos, sq_nonneg, zero_product}
use Rattle.integer.proofs.Signs.{SameSign, WeakSign, same_sym, same-≢, weak_trans, weak_same}
use Rattle.integer.proofs.Magnitude.{size_positive}
use Rattle.model.specs.Vector.{Vec, minus, plus, times, dot}
use Rattle.model.specs.Bounds.{VecWithin}
use Rattle.model.specs.Patch.{Patch, Edge, Proper, corner, normal, edges}
use Rattle.model.specs.Ray.{eye_product, edge_vector, edge_number, met}
use Rattle.model.proofs.Vectors.{det}
use Rattle.model.proofs.Patches.{normal_square, met_says}
use Rattle.model.proofs.Sides.{distance_positive}
use Rattle.model.proofs.Inside.{inner_number, point_met, inner_number_lem, strictly_inside}
use Rattle.model.proofs.Alike.{Ranged}
use Rattle.coverage.proofs.Covered.{Covered, plane_times, edge_times}
use Rattle.coverage.proofs.Generic.{Generic, off_plane_lem, off_edge}

module _ (eye D : Vec) where
  -- The point in the patch's plane as numerators over a square: so the denominator is above 0 though D · n may be below it.
  abbrev pub met_numerators : Patch → Vec
  met_numerators p = times (dot D (normal p)) (point_met eye D p)

  abbrev pub met_denominator : Patch → ℕ
  met_denominator p = nat_abs (dot D (normal p) *ℤ dot D (normal p))

  module _ {p : Patch} (P : Proper p) (h : T (met eye D p)) where
    leaves : dot D (normal p) ≢ pos 0
    leaves = same-≢ (same_sym (distance_positive eye D P h))

    squared : dot D (normal p) *ℤ dot D (normal p) ≡ pos (met_denominator p)
    squared = size_positive (sq_pos leaves)

    pub denominator_positive : 0 < met_denominator p
    denominator_positive = ltb→lt 0 (met_denominator p) (subst (pos 0 <ℤ◌) squared (sq_pos leaves)).lt

    -- a met patch covers the point where it is met
    pub covers_met : Covered p (met_numerators p) (met_denominator p)
    covers_met =
        let i = ((strictly_inside eye D P).0 h).1 in
        record {
          in_plane =
              subst (λ (k : ℤ). dot (minus (met_numerators p) (times k (corner p 0))) (normal p) ≡ pos 0) squared
              (plane_times (point_met eye D p) (corner p 0) (normal p) (dot D (normal p)) (dot D (normal p))
              ∙ ap (dot D (normal p) *ℤ◌) i.in_plane
              ∙ *ℤ-zero (dot D (normal p)));
          in_edge = λ {e} l.
              subst (λ (k : ℤ). pos 0 ≤ℤ inner_number p e (met_numerators p) k) squared
              (subst (pos 0 ≤ℤ◌)
              (sym (edge_times (point_met eye D p) e.from (normal p) (minus e.to e.from) (dot D (normal p)) (dot D (normal p))))
              (<→≤ (i.in_edge l).agree));
        }

    module _ {r : Patch} (c : Covered r (met_numerators p) (met_denominator p)) where
      -- what it says to cover the point, over the square itself
      plane_covered : dot (minus (met_numerators p) (times (dot D (normal p) *ℤ dot D (normal p)) (corner r 0))) (normal r) ≡ pos 0
      plane_covered = subst (λ (k : ℤ). dot (minus (met_numerators p) (times k (corner r 0))) (normal r) ≡ pos 0) (sym squared) c.in_plane

      edge_covered :
          {e : Edge} → Memᴰ e (edges r.corners) →
          pos 0 ≤ℤ inner_number r e (met_numerators p) (dot D (normal p) *ℤ dot D (normal p))
      edge_covered {e} l = subst (λ (k : ℤ). pos 0 ≤ℤ inner_number r e (met_numerators p) k) (sym squared) (c.in_edge l)

      -- the line meets the plane of r at the same distance, cross-multiplied
      pub one_point : eye_product eye p *ℤ dot D (normal r) ≡ eye_product eye r *ℤ dot D (normal p)
      one_point =
          by_zero
          (*_cancel-≡ (dot D (normal p)) leaves
          (sym (in_plane_lem (dot D (normal p)) (eye_product eye p) (corner r 0) (normal r)) ∙ plane_covered ∙ sym (*ℤ-zero (dot D (normal p)))))
        where
          in_plane_lem :
              (δ σ : ℤ) (c n : Vec) →
              dot (minus (times δ (plus (times δ eye) (times σ D))) (times (δ *ℤ δ) c)) n ≡ δ *ℤ (σ *ℤ dot D n -ℤ dot (minus c eye) n *ℤ δ)
          in_plane_lem δ σ c n =
              ring
              (δ ∷ σ ∷ eye.x ∷ eye.y ∷ eye.z ∷ D.x ∷ D.y ∷ D.z ∷ c.x ∷ c.y ∷ c.z ∷ n.x ∷ n.y ∷ n.z ∷ [])
              (search reify depth 40 fits 200000, tt)

      module _ (eye_within : VecWithin 10000 eye) (generic : Generic D) (R : Proper r) (ranged : Ranged r) where
        -- so r is ahead of the eye and not seen edge-on
        ahead : SameSign (eye_product eye r) (dot D (normal r))
        ahead =
            let g = distance_positive eye D P h in
            go (eye_product eye p) (dot D (normal p)) (eye_product eye r) (dot D (normal r)) g.agree (same-≢ g)
            (off_plane_lem eye_within generic R ranged) one_point
          where
            go : (σ δ σ' δ' : ℤ) → pos 0 <ℤ (σ *ℤ δ) → σ ≢ pos 0 → δ' ≢ pos 0 → σ *ℤ δ' ≡ σ' *ℤ δ → SameSign σ' δ'
            go σ δ σ' δ' a b c e =
                record {
                  agree =
                      *_pos_cancel a
                      (subst (pos 0 <ℤ◌)
                      (combine₁ (σ *ℤ δ') e (ring (σ ∷ δ ∷ σ' ∷ δ' ∷ []) (search reify depth 40 fits 200000, tt)))
                      (sq_pos {a = σ *ℤ δ'} (λ z. neither (zero_product σ δ' z))));
                }
              where
                neither : (σ ≡ pos 0) ⊎ (δ' ≡ pos 0) → ⊥
                neither (inl z) = b z
                neither (inr z) = c z

        -- each edge number has the sign of the eye-to-corner product or is 0, and on a generic line it is not 0
        passed : {e : Edge} → Memᴰ e (edges r.corners) → SameSign (eye_product eye r) (edge_number D (edge_vector eye e))
        passed {e} l =
            weak_same (same-≢ ahead) (off_edge eye_within generic R ranged (same-≢ ahead) l)
            (weak_trans (same_sym ahead)
            (sides (dot D (normal p) *ℤ dot D (normal p)) (dot (normal r) (normal r)) (dot D (normal r)) (sq_pos leaves) (normal_square R)
            (edge_covered l)
            (inner (dot D (normal p)) (eye_product eye p) (dot D (normal r)) (eye_product eye r) (normal r) (minus e.to e.from) e.from one_point)
            (inner_number_lem eye D R l)))
          where
            inner :
                (δ σ δ' σ' : ℤ) (n w v : Vec) → σ *ℤ δ' ≡ σ' *ℤ δ →
                δ' *ℤ det n w (minus (times δ (plus (times δ eye) (times σ D))) (times (δ *ℤ δ) v))
                ≡ (δ *ℤ δ) *ℤ det n w (minus (plus (times δ' eye) (times σ' D)) (times δ' v))
            inner δ σ δ' σ' n w v e =
                combine₁ (δ *ℤ det n w D) e
                (ring
                (δ ∷ σ ∷ δ' ∷ σ' ∷ eye.x ∷ eye.y ∷ eye.z ∷ D.x ∷ D.y ∷ D.z ∷ n.x ∷ n.y ∷ n.z ∷ w.x ∷ w.y ∷ w.z ∷ v.x ∷ v.y ∷ v.z ∷ [])
                (search reify depth 40 fits 200000, tt))

            sides :
                (k N δ' : ℤ) {E I J : ℤ} → pos 0 <ℤ k → pos 0 <ℤ N → pos 0 ≤ℤ I → δ' *ℤ I ≡ k *ℤ J → N *ℤ E ≡ J → WeakSign δ' E
            sides k N δ' {E} {I} {J} hk hN hI e f =
                record {
                  agree =
                      *_nonneg_cancel (*_pos hk hN)
                      (≤_by (*_nonneg (sq_nonneg δ') hI)
                      (combine₂ (neg_ℤ δ') e (k *ℤ δ') f (ring (k ∷ N ∷ δ' ∷ E ∷ I ∷ J ∷ []) (search reify depth 40 fits 200000, tt))));
                }

        pub met_covers : T (met eye D r)
        met_covers = (met_says eye D r).1 (record { faced = same-≢ ahead; passed = passed })
