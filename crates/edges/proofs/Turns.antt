-- An edge vector times a sign: that of the edge gone the other way, its own, or none.
use mathlib.Core.Path.{◌≡◌, ◌∙◌, ap}
use mathlib.Core.List.{[], ◌∷◌}
use Prim.Native.Nat.{suc}
use native.Mathlib.Omega.{arith}
use lib.Dec.{leb→le}
use lib.IntN.{ℤ, pos, negsuc, ◌-ℤ◌, ◌*ℤ◌}
use lib.Signed.{◌<ℤ◌, ◌≤ℤ◌}
use Rattle.integer.specs.Magnitude.{Within}
use Rattle.integer.proofs.Identity.{ring, reify}
use Rattle.integer.proofs.Order.{≤ℤ_antisym}
use Rattle.model.specs.Vector.{Vec, vec, origin, times, cross}

-- the signs, by the comparisons that tell them
minus_one : (s : ℤ) → Within 1 s → s <ℤ pos 0 → negsuc 0 ≡ s
minus_one (pos n) h l = absurd (omega (arith, leb→le (suc n) 0 l.lt))
minus_one (negsuc n) h l = ap negsuc (omega (arith, h.within))

plus_one : (s : ℤ) → Within 1 s → pos 0 <ℤ s → pos 1 ≡ s
plus_one (pos n) h l = ap pos (omega (arith, h.within, leb→le 1 n l.lt))
plus_one (negsuc n) h l = absurd l.lt

module _ (a b : Vec) where
  pub turned_over_lem : (s : ℤ) → Within 1 s → s <ℤ pos 0 → cross b a ≡ times s (cross a b)
  turned_over_lem s h l =
      (λ t. vec (part a.y a.z b.y b.z t) (part a.z a.x b.z b.x t) (part a.x a.y b.x b.y t))
      ∙ ap (λ (k : ℤ). times k (cross a b)) (minus_one s h l)
    where
      part : (p q r s : ℤ) → r *ℤ q -ℤ s *ℤ p ≡ negsuc 0 *ℤ (p *ℤ s -ℤ q *ℤ r)
      part p q r s = ring (p ∷ q ∷ r ∷ s ∷ []) (search reify depth 40 fits 200000, tt)

  pub as_it_is : (s : ℤ) → Within 1 s → pos 0 <ℤ s → cross a b ≡ times s (cross a b)
  as_it_is s h l =
      (λ t. vec (once (cross a b).x t) (once (cross a b).y t) (once (cross a b).z t))
      ∙ ap (λ (k : ℤ). times k (cross a b)) (plus_one s h l)
    where
      once : (p : ℤ) → p ≡ pos 1 *ℤ p
      once p = ring (p ∷ []) (search reify depth 40 fits 200000, tt)

  pub none : (s : ℤ) → s ≤ℤ pos 0 → pos 0 ≤ℤ s → origin ≡ times s (cross a b)
  none s h l =
      (λ t. vec (nought (cross a b).x t) (nought (cross a b).y t) (nought (cross a b).z t))
      ∙ ap (λ (k : ℤ). times k (cross a b)) (≤ℤ_antisym l h)
    where
      nought : (p : ℤ) → pos 0 ≡ pos 0 *ℤ p
      nought p = ring (p ∷ []) (search reify depth 40 fits 200000, tt)
