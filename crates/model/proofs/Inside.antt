-- Meets means strictly inside: a ray meets a patch where the distance is above 0 and the ray's point in the patch's plane lies strictly inside every edge.
use mathlib.Core.Path.{◌≡◌, sym, subst}
use mathlib.Core.Logic.{◌↔◌}
use mathlib.Core.List.{Memᴰ}
use lib.Dec.{T}
use lib.IntN.{ℤ, pos, ◌*ℤ◌}
use Rattle.integer.proofs.Signs.{SameSign, same_sym, same-≢, same_scale, same_unscale, same_trans}
use Rattle.model.specs.Vector.{Vec, minus, dot, times}
use Rattle.model.specs.Patch.{Patch, Edge, corner, normal, edges, Proper}
use Rattle.model.specs.Ray.{eye_product, edge_vector, edge_number, met}
use Rattle.model.proofs.Vectors.{det, on_line, meets_plane, edge_number_lem}
use Rattle.model.proofs.Rounds.{edge_ends}
use Rattle.model.proofs.Patches.{corner_height, normal_square, met_says}
use Rattle.model.proofs.Sides.{distance_positive}

-- for the point q / k, the number n · ((w − v) × (q / k − v)) of question 8, times k
abbrev pub inner_number : Patch → Edge → Vec → ℤ → ℤ
inner_number p e q k = det (normal p) (minus e.to e.from) (minus q (times k e.from))

-- the point q / k lies in the patch's plane, and strictly on the inner side of every edge
pub record StrictlyInside (p : Patch) (q : Vec) (k : ℤ) : Type 0 where
  pub in_plane : dot (minus q (times k (corner p 0))) (normal p) ≡ pos 0
  pub in_edge : {e : Edge} → Memᴰ e (edges p.corners) → SameSign k (inner_number p e q k)

-- the ray's point in the patch's plane, times the denominator of the distance
abbrev pub point_met : Vec → Vec → Patch → Vec
point_met eye d p = on_line eye d (eye_product eye p) (dot d (normal p))

module _ (eye d : Vec) {p : Patch} (proper : Proper p) where
  -- an edge number is the inner number of the ray's point, but for the factor n · n
  pub inner_number_lem :
      {e : Edge} →
      Memᴰ e (edges p.corners) →
      dot (normal p) (normal p) *ℤ edge_number d (edge_vector eye e) ≡ inner_number p e (point_met eye d p) (dot d (normal p))
  inner_number_lem {e} l =
      edge_number_lem eye d (normal p) e.from e.to (eye_product eye p)
      (corner_height proper (edge_ends l).0 eye)
      (corner_height proper (edge_ends l).1 eye)

  pub strictly_inside :
      T (met eye d p) ↔ (SameSign (eye_product eye p) (dot d (normal p)) × StrictlyInside p (point_met eye d p) (dot d (normal p)))
  strictly_inside = (to, from)
    where
      to : T (met eye d p) → SameSign (eye_product eye p) (dot d (normal p)) × StrictlyInside p (point_met eye d p) (dot d (normal p))
      to h =
          let s = distance_positive eye d proper h in (
            s,
            record {
              in_plane = meets_plane eye d (normal p) (corner p 0);
              in_edge =
                  λ {e} l.
                  subst (SameSign (dot d (normal p))) (inner_number_lem l)
                  (same_scale (normal_square proper) (same_trans (same_sym s) (((met_says eye d p).0 h).passed l)));
            },
          )

      from : SameSign (eye_product eye p) (dot d (normal p)) × StrictlyInside p (point_met eye d p) (dot d (normal p)) → T (met eye d p)
      from (s, i) =
          (met_says eye d p).1
          (record {
            faced = same-≢ s;
            passed =
                λ {e} l.
                same_trans s (same_unscale (normal_square proper) (subst (SameSign (dot d (normal p))) (sym (inner_number_lem l)) (i.in_edge l)));
          })
