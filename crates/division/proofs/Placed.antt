-- A patch held to a plane lies on it, in front of it or behind it, as the model says.
use mathlib.Core.Path.{◌≡◌, refl, sym, ap, ap₂, ◌∙◌}
use mathlib.Core.Bool.{Bool, true, false, not, ◌&&◌, ◌||◌, beq, and_comm, and-false}
use mathlib.Core.List.{List, [], ◌∷◌}
use Prim.Native.Nat.{zero, suc, zero-le}
use native.Mathlib.Nat.{zero-lt-suc}
use lib.IntN.{ℤ, pos, negsuc, neg_ℤ, ◌-ℤ◌}
use lib.Signed.{lt_z, le_z}
use borrow.Author.Tests.{lt-ltb, le-ltb}
use Rattle.integer.proofs.Identity.{ring, reify}
use Rattle.integer.proofs.Order.{le_z_not}
use Rattle.model.specs.Lists.{every, any}
use Rattle.model.specs.Vector as model
use Rattle.model.specs.Vector.{Vec, side, plane_normal, minus, dot, is_zero, turned_over}
use Rattle.model.specs.Patch.{Patch, lies_on}
use Rattle.model.specs.Tree.{lies_positive}
use Rattle.model.proofs.Vectors.{side_turned}
use Rattle.halfspaces.specs.Sides.{PlaneIs, side_of, on_negative, on_positive, held}
use Rattle.halfspaces.specs.declared.planes.Plane.{Plane}

-- ---- numbers

zero_is : (z : ℤ) → is_zero z ≡ (not (lt_z z (pos 0)) && not (lt_z (pos 0) z))
zero_is (pos zero) = refl
zero_is (pos (suc n)) =
    let b : Bool = not (lt_z (pos (suc n)) (pos 0)) in
    sym (ap (λ (c : Bool). b && not c) (lt-ltb 0 (suc n) (zero-lt-suc n)) ∙ and-false b)
zero_is (negsuc n) = refl

above_turned : (z : ℤ) → lt_z (pos 0) (neg_ℤ z) ≡ lt_z z (pos 0)
above_turned (pos zero) = refl
above_turned (pos (suc n)) = sym (le-ltb (suc n) 0 zero-le)
above_turned (negsuc n) = lt-ltb 0 (suc n) (zero-lt-suc n)

below_turned : (z : ℤ) → lt_z (neg_ℤ z) (pos 0) ≡ lt_z (pos 0) z
below_turned (pos zero) = refl
below_turned (pos (suc n)) = sym (lt-ltb 0 (suc n) (zero-lt-suc n))
below_turned (negsuc n) = le-ltb (suc n) 0 zero-le

-- ---- lists

same_false : (b : Bool) → beq b false ≡ not b
same_false true = refl
same_false false = refl

same_true : (b : Bool) → beq b true ≡ b
same_true true = refl
same_true false = refl

module _ {A : Type 0} where
  every_not : (test : A → Bool) (l : List A) → every (λ (a : A). not (test a)) l ≡ not (any test l)
  every_not test [] = refl
  every_not test (a ∷ l) = step (test a) (every_not test l)
    where
      step : {e : Bool} (b : Bool) → e ≡ not (any test l) → (not b && e) ≡ not (b || any test l)
      step true h = refl
      step false h = h

  every_neither : (t u : A → Bool) (l : List A) → every (λ (a : A). not (t a) && not (u a)) l ≡ (not (any t l) && not (any u l))
  every_neither t u [] = refl
  every_neither t u (a ∷ l) = step (t a) (u a) (every_neither t u l)
    where
      step : {e : Bool} (b c : Bool) → e ≡ (not (any t l) && not (any u l)) → ((not b && not c) && e) ≡ (not (b || any t l) && not (c || any u l))
      step true c h = refl
      step false true h = sym (and-false (not (any t l)))
      step false false h = h

-- ---- planes

dot_minus : (c a n : Vec) → dot (minus c a) n ≡ dot c n -ℤ dot a n
dot_minus c a n =
    ring (c.x ∷ c.y ∷ c.z ∷ a.x ∷ a.y ∷ a.z ∷ n.x ∷ n.y ∷ n.z ∷ []) (search reify depth 40 fits 200000, tt)

module _ {s : model.Plane} {r : Plane} (is : PlaneIs s r) where
  side_is : (c : Vec) → side s c ≡ side_of r c
  side_is c =
      dot_minus c s.a (plane_normal s)
      ∙ ap₂ (λ (n : Vec) (k : ℤ). dot c n -ℤ k) (sym is.normal_is) (sym is.level_is)

  pub held_on : lies_on s ≡ held r (record { negative = false; positive = false })
  unfolding lies_on held
  held_on = λ i p. on p i
    where
      on : (p : Patch) →
          every (λ (c : Vec). is_zero (side s c)) p.corners
          ≡ (beq (any (on_negative r) p.corners) false && beq (any (on_positive r) p.corners) false)
      on p =
          (λ i. every (λ (c : Vec). (ap is_zero (side_is c) ∙ zero_is (side_of r c)) i) p.corners)
          ∙ every_neither (on_negative r) (on_positive r) p.corners
          ∙ sym (ap₂ ◌&&◌ (same_false (any (on_negative r) p.corners)) (same_false (any (on_positive r) p.corners)))

  pub held_front : lies_positive s ≡ held r (record { negative = false; positive = true })
  unfolding lies_positive held
  held_front = λ i p. front p i
    where
      front : (p : Patch) →
          (every (λ (c : Vec). le_z (pos 0) (side s c)) p.corners && any (λ (c : Vec). lt_z (pos 0) (side s c)) p.corners)
          ≡ (beq (any (on_negative r) p.corners) false && beq (any (on_positive r) p.corners) true)
      front p =
          ap₂ ◌&&◌
          ((λ i. every (λ (c : Vec). (ap (le_z (pos 0)) (side_is c) ∙ le_z_not (pos 0) (side_of r c)) i) p.corners)
          ∙ every_not (on_negative r) p.corners ∙ sym (same_false (any (on_negative r) p.corners)))
          ((λ i. any (λ (c : Vec). lt_z (pos 0) (side_is c i)) p.corners) ∙ sym (same_true (any (on_positive r) p.corners)))

  pub held_back : lies_positive (turned_over s) ≡ held r (record { negative = true; positive = false })
  unfolding lies_positive held
  held_back = λ i p. back p i
    where
      turned : (c : Vec) → side (turned_over s) c ≡ neg_ℤ (side_of r c)
      turned c = side_turned s c ∙ ap neg_ℤ (side_is c)

      not_behind : (c : Vec) → le_z (pos 0) (side (turned_over s) c) ≡ not (on_positive r c)
      not_behind c =
          ap (le_z (pos 0)) (turned c) ∙ le_z_not (pos 0) (neg_ℤ (side_of r c)) ∙ ap not (below_turned (side_of r c))

      before : (c : Vec) → lt_z (pos 0) (side (turned_over s) c) ≡ on_negative r c
      before c = ap (lt_z (pos 0)) (turned c) ∙ above_turned (side_of r c)

      back : (p : Patch) →
          (every (λ (c : Vec). le_z (pos 0) (side (turned_over s) c)) p.corners
          && any (λ (c : Vec). lt_z (pos 0) (side (turned_over s) c)) p.corners)
          ≡ (beq (any (on_negative r) p.corners) true && beq (any (on_positive r) p.corners) false)
      back p =
          ap₂ ◌&&◌
          ((λ i. every (λ (c : Vec). not_behind c i) p.corners)
          ∙ every_not (on_positive r) p.corners
          ∙ sym (same_false (any (on_positive r) p.corners)))
          ((λ i. any (λ (c : Vec). before c i) p.corners) ∙ sym (same_true (any (on_negative r) p.corners)))
          ∙ and_comm (beq (any (on_positive r) p.corners) false) (beq (any (on_negative r) p.corners) true)
