-- The order in which met patches show: `precedes` is a strict weak order on them.
use mathlib.Core.Path.{◌≡◌, ap}
use mathlib.Core.Logic.{◌↔◌, ◌⊎◌, inl, inr}
use mathlib.Core.Bool.{Bool, not, ◌&&◌}
use Prim.Native.Nat.{ℕ, zero, suc, ◌*◌, ◌≤◌, ◌<◌}
use native.Mathlib.Nat.{le_antisymm, le_of_mul-le-mul_left, mul-le-mul_left}
use native.Mathlib.Omega.{arith}
use lib.Dec.{T, T_not, not_T, ltb, ltb→lt, lt→ltb, nltb→le}
use lib.IntN.{ℤ, pos, negsuc, nat_abs, ◌*ℤ◌}
use Rattle.integer.proofs.Magnitude.{size_product}
use Rattle.model.specs.Lists.{every}
use Rattle.model.specs.Vector.{Vec, is_zero}
use Rattle.model.specs.Patch.{Patch, Edge, edges}
use Rattle.model.specs.Ray.{eye_product, edge_vector, edge_number, same_sign, met, Fraction, distance, below, precedes}
use Rattle.model.proofs.Tests.{both, either}

-- ---- fractions

not_zero : (z : ℤ) → T (not (is_zero z)) → 0 < nat_abs z
not_zero (pos zero) t = absurd t
not_zero (pos (suc n)) t = omega arith
not_zero (negsuc n) t = omega arith

-- a / x is not below b / y, nor that below c / z: so a / x is not below c / z. Only b must not be 0
cross_multiplied : (a b c x y z : ℕ) → 0 < b → b * x ≤ a * y → c * y ≤ b * z → c * x ≤ a * z
cross_multiplied a b c x y z h k l =
    le_of_mul-le-mul_left {k = b} (omega (arith, mul-le-mul_left c k, mul-le-mul_left a l)) h

pub below_asym : (f g : Fraction) → T (below f g) → T (below g f) → ⊥
below_asym f g s t = omega (arith, ltb→lt)

-- of two equal fractions, cross-multiplied, neither is below the other
pub equal_not_below :
    (f g : Fraction) → f.numerator *ℤ g.denominator ≡ g.numerator *ℤ f.denominator → T (below f g) → ⊥
equal_not_below f g e t =
    let x = size_product f.numerator g.denominator in
    let y = size_product g.numerator f.denominator in
    let z = ap nat_abs e in
    omega (arith, ltb→lt)

not_less : (m n : ℕ) → (T (ltb m n) → ⊥) → n ≤ m
not_less m n f = nltb→le m n (not_T (ltb m n) f)

-- "not below" goes through a fraction that is not 0
not_below_trans :
    (f g h : Fraction) →
    0 < nat_abs g.numerator →
    (T (below f g) → ⊥) →
    (T (below g h) → ⊥) →
    T (below f h) →
    ⊥
not_below_trans f g h o s t u =
    let k : nat_abs h.numerator * nat_abs f.denominator ≤ nat_abs f.numerator * nat_abs h.denominator =
    cross_multiplied _ (nat_abs g.numerator) _ _ (nat_abs g.denominator) _ o (not_less _ _ s) (not_less _ _ t) in
    omega (arith, ltb→lt)

-- ---- patches

-- a met patch is not seen edge-on: its distance is not 0
pub met_numerator : (eye d : Vec) (p : Patch) → T (met eye d p) → 0 < nat_abs (eye_product eye p)
unfolding met
met_numerator eye d p m =
    let inside : Bool =
    every (λ (e : Edge). same_sign (eye_product eye p) (edge_number d (edge_vector eye e))) (edges p.corners) in
    not_zero (eye_product eye p) ((both (not (is_zero (eye_product eye p))) inside).0 m).0

module _ (eye d : Vec) where
  abbrev pub nearer : Patch → Patch → Bool
  nearer p q = below (distance eye d p) (distance eye d q)

  -- p is nearer, or q is not and p's panel number is lower
  abbrev pub Before : Patch → Patch → Type 0
  Before p q = T (nearer p q) ⊎ ((T (nearer q p) → ⊥) × (p.panel < q.panel))

  pub precedes_true : (p q : Patch) → T (precedes eye d p q) ↔ Before p q
  unfolding precedes
  precedes_true p q = (
    λ t. split ((either (nearer p q) (not (nearer q p) && lower)).0 t),
    λ s. (either (nearer p q) (not (nearer q p) && lower)).1 (join s),
  )
    where
      lower : Bool
      lower = ltb p.panel q.panel

      split : T (nearer p q) ⊎ T (not (nearer q p) && lower) → Before p q
      split (inl n) = inl n
      split (inr l) =
          let s = (both (not (nearer q p)) lower).0 l in
          inr (T_not (nearer q p) s.0, ltb→lt p.panel q.panel s.1)

      join : Before p q → T (nearer p q) ⊎ T (not (nearer q p) && lower)
      join (inl n) = inl n
      join (inr s) =
          inr ((both (not (nearer q p)) lower).1 (not_T (nearer q p) s.0, lt→ltb p.panel q.panel s.1))

  pub precedes_asym : (p q : Patch) → T (precedes eye d p q) → T (precedes eye d q p) → ⊥
  precedes_asym p q s t = clash ((precedes_true p q).0 s) ((precedes_true q p).0 t)
    where
      clash : Before p q → Before q p → ⊥
      clash (inl a) (inl b) = below_asym (distance eye d p) (distance eye d q) a b
      clash (inl a) (inr b) = b.0 a
      clash (inr a) (inl b) = a.0 b
      clash (inr a) (inr b) = omega arith

  pub precedes_irrefl : (p : Patch) → T (precedes eye d p p) → ⊥
  precedes_irrefl p t = precedes_asym p p t t

  -- where p does not precede q, it is not nearer, and where q is not nearer either, p's panel number is not lower
  not_nearer : (p q : Patch) → (T (precedes eye d p q) → ⊥) → T (nearer p q) → ⊥
  not_nearer p q f n = f ((precedes_true p q).1 (inl n))

  not_lower : (p q : Patch) → (T (precedes eye d p q) → ⊥) → (T (nearer q p) → ⊥) → q.panel ≤ p.panel
  not_lower p q f g =
      let h : p.panel < q.panel → ⊥ = λ l. f ((precedes_true p q).1 (inr (g, l))) in
      omega arith

  -- p does not precede q exactly where it is not nearer and, if q is not nearer either, not of a lower panel
  pub not_precedes :
      (p q : Patch) →
      (T (precedes eye d p q) → ⊥) ↔ (T (not (nearer p q)) × (T (not (nearer q p)) → q.panel ≤ p.panel))
  not_precedes p q = (
    λ f. (not_T (nearer p q) (not_nearer p q f), λ t. not_lower p q f (T_not (nearer q p) t)),
    λ s t. clash s ((precedes_true p q).0 t),
  )
    where
      clash : T (not (nearer p q)) × (T (not (nearer q p)) → q.panel ≤ p.panel) → Before p q → ⊥
      clash s (inl n) = T_not (nearer p q) s.0 n
      clash s (inr (f, l)) = let h : q.panel ≤ p.panel = s.1 (not_T (nearer q p) f) in omega arith

  -- two patches neither of which precedes the other are of one panel
  pub level_panels :
      (p q : Patch) →
      (T (precedes eye d p q) → ⊥) →
      (T (precedes eye d q p) → ⊥) →
      p.panel ≡ q.panel
  level_panels p q s t =
      le_antisymm (not_lower q p t (not_nearer p q s)) (not_lower p q s (not_nearer q p t))

  pub not_nearer_trans :
      (p q r : Patch) →
      T (met eye d q) →
      (T (nearer p q) → ⊥) →
      (T (nearer q r) → ⊥) →
      T (nearer p r) →
      ⊥
  not_nearer_trans p q r m = not_below_trans (distance eye d p) (distance eye d q) (distance eye d r) (met_numerator eye d q m)

  module _ (p q r : Patch) (p_met : T (met eye d p)) (q_met : T (met eye d q)) (r_met : T (met eye d r)) where
    pub not_precedes_trans :
        (T (precedes eye d p q) → ⊥) →
        (T (precedes eye d q r) → ⊥) →
        T (precedes eye d p r) →
        ⊥
    not_precedes_trans s t u = clash ((precedes_true p r).0 u)
      where
        pq : T (nearer p q) → ⊥
        pq = not_nearer p q s

        qr : T (nearer q r) → ⊥
        qr = not_nearer q r t

        clash : Before p r → ⊥
        clash (inl n) = not_nearer_trans p q r q_met pq qr n
        clash (inr (rp, l)) =
            let a : r.panel ≤ q.panel = not_lower q r t (not_nearer_trans r p q p_met rp pq) in
            let b : q.panel ≤ p.panel = not_lower p q s (not_nearer_trans q r p r_met qr rp) in
            omega arith
