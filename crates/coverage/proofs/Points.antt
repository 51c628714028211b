-- What a patch covers at the least: it goes by the point, however its fractions are multiplied out, and a proper patch covers its corners and what lies between two points
-- that it covers, as those of an edge do.
use mathlib.Core.Path.{◌≡◌, sym, ◌∙◌, ap, subst}
use mathlib.Core.Logic.{◌↔◌, ◌⊎◌, inl, inr}
use mathlib.Core.List.{[], ◌∷◌, Memᴰ}
use Prim.Native.Nat.{ℕ, ◌+◌, ◌*◌, ◌<◌}
use lib.Dec.{T, lt→ltb}
use lib.IntN.{ℤ, pos, ◌+ℤ◌, ◌-ℤ◌, ◌*ℤ◌, *ℤ-zero}
use lib.Signed.{◌<ℤ◌, ◌≤ℤ◌, lt_z_yes}
use Rattle.integer.proofs.Identity.{ring, reify, combine₂}
use Rattle.integer.proofs.Order.{+_nonneg, <_by, <→≤, ≡→≤}
use Rattle.integer.proofs.Products.{*_nonneg, *_nonneg_cancel, *_zero_cancel}
use Rattle.model.specs.Vector.{Vec, minus, plus, times, dot}
use Rattle.model.specs.Patch.{Patch, Edge, Proper, corner, normal, edges}
use Rattle.model.proofs.Vectors.{det}
use Rattle.model.proofs.Rounds.{edge_corner}
use Rattle.model.proofs.Patches.{corner_level, turns}
use Rattle.coverage.specs.Coverage.{plane_side, edge_side, covered}
use Rattle.coverage.proofs.Covered.{covered_says, plane_sum, edge_sum, plane_times, edge_times}

-- The point q / k may be written as m q / m k.
pub same_point : (p : Patch) (q : Vec) (k m : ℕ) → 0 < m → T (covered p q k) ↔ T (covered p (times (pos m) q) (m * k))
same_point p q k m h = (
  λ t.
      let c = (covered_says p q k).0 t in
      (covered_says p (times (pos m) q) (m * k)).1
      (record {
        in_plane = plane_times q (corner p 0) (normal p) (pos k) (pos m) ∙ ap (pos m *ℤ◌) c.in_plane ∙ *ℤ-zero (pos m);
        in_edge = λ {e} l.
            subst (pos 0 ≤ℤ◌) (sym (edge_times q e.from (normal p) (minus e.to e.from) (pos k) (pos m))) (*_nonneg (<→≤ some) (c.in_edge l));
      }),
  λ t.
      let c = (covered_says p (times (pos m) q) (m * k)).0 t in
      (covered_says p q k).1
      (record {
        in_plane = *_zero_cancel some (sym (plane_times q (corner p 0) (normal p) (pos k) (pos m)) ∙ c.in_plane);
        in_edge = λ {e} l.
            *_nonneg_cancel some (subst (pos 0 ≤ℤ◌) (edge_times q e.from (normal p) (minus e.to e.from) (pos k) (pos m)) (c.in_edge l));
      }),
)
  where
    some : pos 0 <ℤ pos m
    some = lt_z_yes (lt→ltb 0 m h)

-- the point (q + q') / (k + k') lies between q / k and q' / k' (and each point between them is such a one, with other numbers for the two)
pub between_covered :
    (p : Patch) (q q' : Vec) (k k' : ℕ) → T (covered p q k) → T (covered p q' k') → T (covered p (plus q q') (k + k'))
between_covered p q q' k k' s t =
    let c = (covered_says p q k).0 s in
    let c' = (covered_says p q' k').0 t in
    (covered_says p (plus q q') (k + k')).1
    (record {
      in_plane = plane_sum q q' (corner p 0) (normal p) (pos k) (pos k') ∙ zeros c.in_plane c'.in_plane;
      in_edge = λ {e} l.
          subst (pos 0 ≤ℤ◌) (sym (edge_sum q q' e.from (normal p) (minus e.to e.from) (pos k) (pos k'))) (+_nonneg (c.in_edge l) (c'.in_edge l));
    })
  where
    zeros : {x y : ℤ} → x ≡ pos 0 → y ≡ pos 0 → x +ℤ y ≡ pos 0
    zeros {x} {y} e f = combine₂ (pos 1) e (pos 1) f (ring (x ∷ y ∷ []) (search reify depth 40 fits 200000, tt))

-- "edges and corners counted in": a corner is covered
pub corner_covered : {p : Patch} → Proper p → {c : Vec} → Memᴰ c p.corners → T (covered p c 1)
corner_covered {p} proper {c} m = (covered_says p c 1).1 (record { in_plane = in_plane_lem; in_edge = λ {e} l. in_edge_lem l (edge_corner l m) })
  where
    at_once : (c a n : Vec) → dot (minus c (times (pos 1) a)) n ≡ dot (minus c a) n
    at_once c a n = ring (c.x ∷ c.y ∷ c.z ∷ a.x ∷ a.y ∷ a.z ∷ n.x ∷ n.y ∷ n.z ∷ []) (search reify depth 40 fits 200000, tt)

    in_plane_lem : plane_side p c 1 ≡ pos 0
    in_plane_lem = at_once c (corner p 0) (normal p) ∙ corner_level proper m

    once : (n w c v : Vec) → det n w (minus c (times (pos 1) v)) -ℤ pos 0 ≡ det n w (minus c v)
    once n w c v =
        ring
        (n.x ∷ n.y ∷ n.z ∷ w.x ∷ w.y ∷ w.z ∷ c.x ∷ c.y ∷ c.z ∷ v.x ∷ v.y ∷ v.z ∷ [])
        (search reify depth 40 fits 200000, tt)

    at_from : (n w v : Vec) → pos 0 ≡ det n w (minus v (times (pos 1) v))
    at_from n w v = ring (n.x ∷ n.y ∷ n.z ∷ w.x ∷ w.y ∷ w.z ∷ v.x ∷ v.y ∷ v.z ∷ []) (search reify depth 40 fits 200000, tt)

    at_to : (n v w : Vec) → pos 0 ≡ det n (minus w v) (minus w (times (pos 1) v))
    at_to n v w = ring (n.x ∷ n.y ∷ n.z ∷ w.x ∷ w.y ∷ w.z ∷ v.x ∷ v.y ∷ v.z ∷ []) (search reify depth 40 fits 200000, tt)

    in_edge_lem :
        {e : Edge} → Memᴰ e (edges p.corners) → (c ≡ e.from) ⊎ ((c ≡ e.to) ⊎ Memᴰ c e.others) →
        pos 0 ≤ℤ edge_side p e c 1
    in_edge_lem {e} l (inl f) = subst (λ (c : Vec). pos 0 ≤ℤ edge_side p e c 1) (sym f) (≡→≤ (at_from (normal p) (minus e.to e.from) e.from))
    in_edge_lem {e} l (inr (inl f)) = subst (λ (c : Vec). pos 0 ≤ℤ edge_side p e c 1) (sym f) (≡→≤ (at_to (normal p) e.from e.to))
    in_edge_lem {e} l (inr (inr o)) = <→≤ (<_by (turns proper l o) (once (normal p) (minus e.to e.from) c e.from))
