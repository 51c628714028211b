-- A double's whole number of units is the one number that is nearest to its exact value times 200, halfway the even one.
use mathlib.Core.Path.{◌≡◌, refl, sym, ◌∙◌, ap, subst}
use mathlib.Core.Logic.{◌↔◌}
use mathlib.Core.Bool.{Bool, true, false, cond}
use mathlib.Core.List.{[], ◌∷◌}
use mathlib.Core.Option.{some}
use Prim.Native.Nat.{ℕ, zero, suc, ◌+◌, ◌-◌, ◌*◌, ◌/◌, ◌%◌, ◌≤◌, ◌<◌}
use native.Mathlib.Nat.{div-add-mod', mod-lt, add-mul, le_of_eq, le_trans}
use native.Mathlib.Omega.{arith}
use lib.Dec.{ltb}
use lib.IntN.{ℤ, pos, negsuc, neg_ℤ, nat_abs, ◌+ℤ◌, ◌-ℤ◌, ◌*ℤ◌, +ℤ_idl, -ℤ-+ℤ_cancel}
use lib.Ieee.{fin, up, down}
use lib.Ieee.Fits.{down_pos}
use borrow.Author.Tests.{ltb-true, ltb-false}
use Rattle.integer.proofs.Identity.{ring, reify}
use Rattle.integer.proofs.Magnitude.{size_negation, size_product, within_self, within_difference}
use Rattle.model.specs.Station.{IsNearest, nearest_whole, signed, whole_units, or_zero}

-- ---- one number alone is nearest

-- how far apart two natural numbers are
gap : (x y : ℕ) → nat_abs (pos x -ℤ pos y) ≡ (x - y) + (y - x)
gap x zero = omega arith
gap x (suc y) = go (ltb x (suc y)) refl
  where
    go : (b : Bool) → ltb x (suc y) ≡ b → nat_abs (cond b (negsuc (suc y - suc x)) (pos (x - suc y))) ≡ (x - suc y) + (suc y - x)
    go true e = omega (arith, ltb-true x (suc y) e)
    go false e = omega (arith, ltb-false x (suc y) e)

-- two even numbers are not one apart
evens_apart : (n k : ℤ) → nat_abs n % 2 ≡ 0 → nat_abs k % 2 ≡ 0 → nat_abs (n -ℤ k) ≡ 1 → ⊥
evens_apart (pos x) (pos y) e f g = omega (arith, gap x y, e, f, g)
evens_apart (pos x) (negsuc y) e f g = omega arith
evens_apart (negsuc x) (pos zero) e f g =
    let d : nat_abs (negsuc x -ℤ pos zero) ≡ (0 - suc x) + (suc x - 0) = gap 0 (suc x) in omega (arith, d, e, g)
evens_apart (negsuc x) (pos (suc y)) e f g = omega arith
evens_apart (negsuc x) (negsuc y) e f g = omega (arith, gap (suc y) (suc x), e, f, g)

none_apart : (n k : ℤ) → nat_abs (n -ℤ k) ≡ 0 → n ≡ k
none_apart n k e = sym (-ℤ-+ℤ_cancel n k) ∙ ap (λ (z : ℤ). z +ℤ k) (zero_size (n -ℤ k) e) ∙ +ℤ_idl k
  where
    zero_size : (z : ℤ) → nat_abs z ≡ 0 → z ≡ pos 0
    zero_size (pos m) h = ap pos h
    zero_size (negsuc m) h = absurd (omega arith)

module _ (a : ℤ) (b : ℕ) (some_b : 0 < b) {n k : ℤ} (h : IsNearest a b n) (l : IsNearest a b k) where
  abbrev off : ℤ → ℤ
  off z = z *ℤ pos b -ℤ a

  apart_by : (p q c : ℤ) → p *ℤ c -ℤ a -ℤ (q *ℤ c -ℤ a) ≡ (p -ℤ q) *ℤ c
  apart_by p q c = ring (p ∷ q ∷ c ∷ a ∷ []) (search reify depth 40 fits 200000, tt)

  -- the two are as far apart as they are from a / b together
  apart : nat_abs (n -ℤ k) * b ≤ nat_abs (off n) + nat_abs (off k)
  apart =
      le_trans (le_of_eq (sym (ap nat_abs (apart_by n k (pos b)) ∙ size_product (n -ℤ k) (pos b))))
      (within_difference (within_self (off n)) (within_self (off k))).within

  pub nearest_only : n ≡ k
  nearest_only = go (nat_abs (n -ℤ k)) refl
    where
      go : (d : ℕ) → nat_abs (n -ℤ k) ≡ d → n ≡ k
      go zero e = none_apart n k e
      go (suc zero) e =
          let far : 1 * b ≤ nat_abs (off n) + nat_abs (off k) = subst (λ (m : ℕ). m * b ≤ nat_abs (off n) + nat_abs (off k)) e apart in
          absurd
          (evens_apart n k (h.halfway (omega (arith, far, h.near, l.near))) (l.halfway (omega (arith, far, h.near, l.near))) e)
      go (suc (suc d)) e =
          let far : (d + 2) * b ≤ nat_abs (off n) + nat_abs (off k) = subst (λ (m : ℕ). m * b ≤ nat_abs (off n) + nat_abs (off k)) (e ∙ omega arith) apart in
          absurd (omega (arith, add-mul d 2 b, far, h.near, l.near, some_b))

-- ---- the number that the division gives
module _ (a b q r : ℕ) (whole : q * b + r ≡ a) (rest : r < b) where
  -- by how far two products lie apart
  abbrev Near : ℕ → Type 0
  Near n = (2 * ((n * b - a) + (a - n * b)) ≤ b) × (2 * ((n * b - a) + (a - n * b)) ≡ b → n % 2 ≡ 0)

  near_is : (n : ℕ) → Near n → IsNearest (pos a) b (pos n)
  near_is n h =
      record {
        near = subst (λ (d : ℕ). 2 * d ≤ b) (sym (gap (n * b) a)) h.0;
        halfway = subst (λ (d : ℕ). 2 * d ≡ b → n % 2 ≡ 0) (sym (gap (n * b) a)) h.1;
      }

  below : r * 2 < b → IsNearest (pos a) b (pos q)
  below h = near_is q (omega arith, λ e. absurd (omega arith))

  above : b < r * 2 → IsNearest (pos a) b (pos (q + 1))
  above h =
      let p : (q + 1) * b ≡ q * b + 1 * b = add-mul q 1 b in
      near_is (q + 1) (omega arith, λ e. absurd (omega arith))

  between : r * 2 ≡ b → IsNearest (pos a) b (pos (q + q % 2))
  between h = go (q % 2) refl
    where
      go : (d : ℕ) → q % 2 ≡ d → IsNearest (pos a) b (pos (q + q % 2))
      go zero e =
          let p : (q + q % 2) * b ≡ q * b = rw e (ap (λ (k : ℕ). k * b) (omega arith)) in
          near_is (q + q % 2) (omega arith, λ f. omega arith)
      go (suc zero) e =
          let p : (q + q % 2) * b ≡ q * b + 1 * b = rw e (add-mul q 1 b) in
          near_is (q + q % 2) (omega arith, λ f. omega arith)
      go (suc (suc d)) e = absurd (omega arith)

nearest_size : (a b : ℕ) → 0 < b → IsNearest (pos a) b (pos (nearest_whole a b))
unfolding nearest_whole
nearest_size a b p = go (ltb (a % b * 2) b) refl (ltb b (a % b * 2)) refl
  where
    go :
        (s : Bool) → ltb (a % b * 2) b ≡ s → (t : Bool) → ltb b (a % b * 2) ≡ t →
        IsNearest (pos a) b (pos (cond s (a / b) (cond t (a / b + 1) (a / b + a / b % 2))))
    go true e t f = below a b (a / b) (a % b) (div-add-mod' a b) (mod-lt a p) (ltb-true (a % b * 2) b e)
    go false e true f = above a b (a / b) (a % b) (div-add-mod' a b) (mod-lt a p) (ltb-true b (a % b * 2) f)
    go false e false f =
        between a b (a / b) (a % b) (div-add-mod' a b) (mod-lt a p)
        (omega (arith, ltb-false (a % b * 2) b e, ltb-false b (a % b * 2) f))

-- the opposite is nearest to the opposite
module _ (a : ℤ) (b : ℕ) {n : ℤ} (h : IsNearest a b n) where
  off_opposite : (p c : ℤ) → neg_ℤ p *ℤ c -ℤ neg_ℤ a ≡ neg_ℤ (p *ℤ c -ℤ a)
  off_opposite p c = ring (p ∷ c ∷ a ∷ []) (search reify depth 40 fits 200000, tt)

  off_size : nat_abs (n *ℤ pos b -ℤ a) ≡ nat_abs (neg_ℤ n *ℤ pos b -ℤ neg_ℤ a)
  off_size = sym (ap nat_abs (off_opposite n (pos b)) ∙ size_negation (n *ℤ pos b -ℤ a))

  nearest_opposite : IsNearest (neg_ℤ a) b (neg_ℤ n)
  nearest_opposite =
      record {
        near = subst (λ (d : ℕ). 2 * d ≤ b) off_size h.near;
        halfway = λ e. rw (size_negation n) (h.halfway (ap (λ (d : ℕ). 2 * d) off_size ∙ e));
      }

nearest_signed : (minus : Bool) (a b : ℕ) → 0 < b → IsNearest (signed minus a) b (signed minus (nearest_whole a b))
nearest_signed true a b p = nearest_opposite (pos a) b (nearest_size a b p)
nearest_signed false a b p = nearest_size a b p

-- "Each becomes the whole number nearest to its exact value times 200, halfway to the even one": that number and no other.
pub units_nearest :
    (minus : Bool) (m : ℕ) (e n : ℤ) →
    (whole_units (fin minus m e) ≡ some n) ↔ IsNearest (signed minus (200 * (m * up e))) (down e) n
unfolding whole_units
units_nearest minus m e n =
    let nearest = nearest_signed minus (200 * (m * up e)) (down e) (down_pos e) in (
      λ h. subst (IsNearest (signed minus (200 * (m * up e))) (down e)) (ap or_zero h) nearest,
      λ h. ap some (nearest_only (signed minus (200 * (m * up e))) (down e) (down_pos e) nearest h),
    )
