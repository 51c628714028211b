-- Question 8 of a projected patch, corner by corner.
use mathlib.Core.Path.{◌≡◌, refl, sym, ap, ◌∙◌, subst}
use mathlib.Core.Bool.{Bool, true, false}
use mathlib.Core.List.{List, [], ◌∷◌}
use Prim.Native.Nat.{ℕ, ◌+◌, ◌<◌}
use lib.IntN.{ℤ, pos, ◌*ℤ◌}
use lib.Signed.{lt_z, ◌<ℤ◌, ◌≤ℤ◌}
use Rattle.integer.proofs.Identity.{ring, reify}
use Rattle.integer.proofs.Order.{lt_lt_z, le_lt_z}
use Rattle.geometry.specs.Machine.{NumberIs}
use Rattle.projection.specs.declared.Point.{Point}
use Rattle.projection.specs.declared.Projection.{Projection}
use Rattle.projection.specs.Projected.{wrap, Projected, projected_of, projected_at, ProjectedWithin, ProjectionBounded, turn_part, asked, turns_projected, turns_projected_at, convex_projected}
use Rattle.model.proofs.Loops.{IsEvery, every_entry, every_number}

-- three corners read round turn the same way
pub turned_projected : (part : ℤ) (a b c : Projected) → turns_projected part a b c ≡ turns_projected part c a b
turned_projected part a b c =
    ap (λ (z : ℤ). lt_z (pos 0) (part *ℤ z))
    (ring (a.u ∷ a.v ∷ b.u ∷ b.v ∷ c.u ∷ c.v ∷ []) (search reify depth 40 fits 200000, tt))

-- the test of the edge from corner k at the other corner j places after its end
abbrev pub turn_projected_at : Projection → List ℤ → List ℤ → ℕ → ℕ → Bool
turn_projected_at projection us vs k j =
    turns_projected projection.part (projected_at us vs k) (projected_at us vs (wrap projection.count (k + 1)))
    (projected_at us vs (wrap projection.count (k + 2 + j)))

module _ {projection : Projection} {us vs : List ℤ} (b : ProjectionBounded projection us vs) where
  pub projected_bounded : {k : ℕ} {r : Point} → k < projection.count → projected_of r ≡ projected_at us vs k → ProjectedWithin (projected_of r)
  projected_bounded {k} h e = subst ProjectedWithin (sym e) (b.corners_within k h)

  pub convex_projected_asked : IsEvery projection.count (turns_projected_at projection us vs) (convex_projected projection us vs)
  convex_projected_asked = every_number (turns_projected_at projection us vs) projection.count

  module _ {k : ℕ} (h : k < projection.count) where
    pub turns_projected_asked : IsEvery (asked projection.count) (turn_projected_at projection us vs k) (turns_projected_at projection us vs k)
    turns_projected_asked =
        every_entry (turns_projected projection.part (projected_at us vs k) (projected_at us vs (wrap projection.count (k + 1))))
        (λ (j : ℕ). projected_at us vs (wrap projection.count (k + 2 + j))) (asked projection.count) refl

    -- the end of the edge and the other corner were read at places i and o
    module _ (j : ℕ) {p q c : Point} {i o : ℕ} {r : ℤ} (ep : projected_of p ≡ projected_at us vs k)
        (ei : i ≡ wrap projection.count (k + 1)) (eq : projected_of q ≡ projected_at us vs i) (eo : o ≡ wrap projection.count (k + 2 + j))
        (ec : projected_of c ≡ projected_at us vs o)
        (is : NumberIs 640000000000000000 (projection.part *ℤ turn_part (projected_of p) (projected_of q) (projected_of c)) r) where
      turn_found :
          r
          ≡ projection.part
          *ℤ turn_part (projected_at us vs k) (projected_at us vs (wrap projection.count (k + 1))) (projected_at us vs (wrap projection.count (k + 2 + j)))
      turn_found =
          is.value ∙ (λ t. projection.part *ℤ turn_part (ep t) ((eq ∙ ap (projected_at us vs) ei) t) ((ec ∙ ap (projected_at us vs) eo) t))

      pub turns_away : r ≤ℤ pos 0 → turn_projected_at projection us vs k j ≡ false
      turns_away f = ap (lt_z (pos 0)) (sym turn_found) ∙ le_lt_z f

      pub turns_in : pos 0 <ℤ r → turn_projected_at projection us vs k j ≡ true
      turns_in f = ap (lt_z (pos 0)) (sym turn_found) ∙ lt_lt_z f
