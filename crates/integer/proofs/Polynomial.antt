-- Polynomials over ℤ in Horner form, `step i P Q` for xᵢ · P + Q, where P has no variable below i and Q none below i + 1: sum, product, their
-- values at a list of numbers, and the test that a polynomial is the constant 0. All of it computes at closed polynomials.
use mathlib.Core.Path.{◌≡◌, refl, sym, ◌∙◌, ap, ap₂}
use mathlib.Core.Bool.{Bool, true, false}
use mathlib.Core.List.{List}
use Prim.Native.Nat.{ℕ, zero, suc, compare, Ordering}
use lib.Dec.{T, compare_is_eq, eqb→eq}
use lib.ListN.{get_or}
use lib.IntN.{ℤ, pos, negsuc, ◌+ℤ◌, ◌*ℤ◌, +ℤ_idl, +ℤ_idr, +ℤ_assoc, *ℤ-zero}
use Rattle.integer.proofs.Ring.{+ℤ_left_comm, +ℤ_swap, *ℤ_distribl, *ℤ_distribr, *ℤ_assoc, *ℤ_left_comm}

pub data Poly : Type 0 where
  con : ℤ → Poly
  step : ℕ → Poly → Poly → Poly

-- a case of a comparison is computed only where it is taken
abbrev pub choose : Ordering → (Ordering → Poly) → (Ordering → Poly) → (Ordering → Poly) → Poly
choose Ordering.lt f g h = f Ordering.lt
choose Ordering.eq f g h = g Ordering.eq
choose Ordering.gt f g h = h Ordering.gt

-- xᵢ · P + Q, where P may be 0
abbrev pub mk : ℕ → Poly → Poly → Poly
mk i (con (pos zero)) q = q
mk i (con (pos (suc n))) q = step i (con (pos (suc n))) q
mk i (con (negsuc n)) q = step i (con (negsuc n)) q
mk i (step j r s) q = step i (step j r s) q

-- ---- sums
abbrev pub add_c : ℤ → Poly → Poly
add_c c (con d) = con (c +ℤ d)
add_c c (step j r s) = step j r (add_c c s)

-- xᵢ · P + Q and a second polynomial, given how to add to P and to Q
abbrev pub add_s : ℕ → Poly → (Poly → Poly) → (Poly → Poly) → Poly → Poly
add_s i p f g (con d) = step i p (g (con d))
add_s i p f g (step j r s) = choose (compare i j) (λ _. step i p (g (step j r s))) (λ _. mk i (f r) (g s)) (λ _. step j r (add_s i p f g s))

abbrev pub add : Poly → Poly → Poly
add (con c) t = add_c c t
add (step i p q) t = add_s i p (λ u. add p u) (λ u. add q u) t

-- ---- products
abbrev pub scale : ℤ → Poly → Poly
scale c (con d) = con (c *ℤ d)
scale c (step j r s) = mk j (scale c r) (scale c s)

-- a variable times a polynomial
abbrev pub raise : ℕ → Poly → Poly
raise i (con c) = mk i (con c) (con (pos zero))
raise i (step j r s) = choose (compare i j) (λ _. step i (step j r s) (con (pos zero))) (λ _. step i (step j r s) (con (pos zero))) (λ _. step j (raise i r) (raise i s))

abbrev pub mul : Poly → Poly → Poly
mul (con c) t = scale c t
mul (step i p q) t = add (raise i (mul p t)) (mul q t)

-- ---- values
abbrev pub val : List ℤ → Poly → ℤ
val ρ (con c) = c
val ρ (step i p q) = get_or ρ i (pos zero) *ℤ val ρ p +ℤ val ρ q

abbrev pub is_zero : Poly → Bool
is_zero (con (pos zero)) = true
is_zero (con (pos (suc n))) = false
is_zero (con (negsuc n)) = false
is_zero (step i p q) = false

pub is_zero_val : (ρ : List ℤ) (p : Poly) → T (is_zero p) → val ρ p ≡ pos zero
is_zero_val ρ (con (pos zero)) t = refl
is_zero_val ρ (con (pos (suc n))) t = absurd t
is_zero_val ρ (con (negsuc n)) t = absurd t
is_zero_val ρ (step i p q) t = absurd t

choose_ind : (P : Poly → Type 0) (o : Ordering) (f g h : Ordering → Poly) → P (f Ordering.lt) → (T (compare_is_eq o) → P (g Ordering.eq)) → P (h Ordering.gt) → P (choose o f g h)
choose_ind P Ordering.lt f g h a b c = a
choose_ind P Ordering.eq f g h a b c = b tt
choose_ind P Ordering.gt f g h a b c = c

module _ (ρ : List ℤ) where
  -- the value of a variable
  abbrev x : ℕ → ℤ
  x i = get_or ρ i (pos zero)

  mk_val : (i : ℕ) (p q : Poly) → val ρ (mk i p q) ≡ x i *ℤ val ρ p +ℤ val ρ q
  mk_val i (con (pos zero)) q = sym (ap (λ z. z +ℤ val ρ q) (*ℤ-zero (x i)) ∙ +ℤ_idl (val ρ q))
  mk_val i (con (pos (suc n))) q = refl
  mk_val i (con (negsuc n)) q = refl
  mk_val i (step j r s) q = refl

  add_c_val : (c : ℤ) (t : Poly) → val ρ (add_c c t) ≡ c +ℤ val ρ t
  add_c_val c (con d) = refl
  add_c_val c (step j r s) = ap (λ z. x j *ℤ val ρ r +ℤ z) (add_c_val c s) ∙ +ℤ_left_comm (x j *ℤ val ρ r) c (val ρ s)

  add_s_val : (i : ℕ) (p q : Poly) (f g : Poly → Poly) → ((u : Poly) → val ρ (f u) ≡ val ρ p +ℤ val ρ u) → ((u : Poly) → val ρ (g u) ≡ val ρ q +ℤ val ρ u)
      → (t : Poly) → val ρ (add_s i p f g t) ≡ x i *ℤ val ρ p +ℤ val ρ q +ℤ val ρ t
  add_s_val i p q f g F G (con d) = ap (λ z. x i *ℤ val ρ p +ℤ z) (G (con d)) ∙ sym (+ℤ_assoc (x i *ℤ val ρ p) (val ρ q) d)
  add_s_val i p q f g F G (step j r s) =
      choose_ind (λ w. val ρ w ≡ x i *ℤ val ρ p +ℤ val ρ q +ℤ val ρ (step j r s)) (compare i j) _ _ _
      (ap (λ z. x i *ℤ val ρ p +ℤ z) (G (step j r s)) ∙ sym (+ℤ_assoc (x i *ℤ val ρ p) (val ρ q) (val ρ (step j r s))))
      (λ e. mk_val i (f r) (g s)
      ∙ ap₂ (λ y z. x i *ℤ y +ℤ z) (F r) (G s)
      ∙ ap (λ z. z +ℤ (val ρ q +ℤ val ρ s)) (*ℤ_distribl (x i) (val ρ p) (val ρ r))
      ∙ +ℤ_swap (x i *ℤ val ρ p) (x i *ℤ val ρ r) (val ρ q) (val ρ s)
      ∙ ap (λ k. x i *ℤ val ρ p +ℤ val ρ q +ℤ (x k *ℤ val ρ r +ℤ val ρ s)) (eqb→eq i j e))
      (ap (λ z. x j *ℤ val ρ r +ℤ z) (add_s_val i p q f g F G s) ∙ +ℤ_left_comm (x j *ℤ val ρ r) (x i *ℤ val ρ p +ℤ val ρ q) (val ρ s))

  pub add_val : (p t : Poly) → val ρ (add p t) ≡ val ρ p +ℤ val ρ t
  add_val (con c) t = add_c_val c t
  add_val (step i p q) t = add_s_val i p q (λ u. add p u) (λ u. add q u) (λ u. add_val p u) (λ u. add_val q u) t

  pub scale_val : (c : ℤ) (t : Poly) → val ρ (scale c t) ≡ c *ℤ val ρ t
  scale_val c (con d) = refl
  scale_val c (step j r s) =
      mk_val j (scale c r) (scale c s)
      ∙ ap₂ (λ y z. x j *ℤ y +ℤ z) (scale_val c r) (scale_val c s)
      ∙ ap (λ z. z +ℤ c *ℤ val ρ s) (*ℤ_left_comm (x j) c (val ρ r))
      ∙ sym (*ℤ_distribl c (x j *ℤ val ρ r) (val ρ s))

  raise_val : (i : ℕ) (t : Poly) → val ρ (raise i t) ≡ x i *ℤ val ρ t
  raise_val i (con c) = mk_val i (con c) (con (pos zero)) ∙ +ℤ_idr (x i *ℤ c)
  raise_val i (step j r s) =
      choose_ind (λ w. val ρ w ≡ x i *ℤ val ρ (step j r s)) (compare i j) _ _ _
      (+ℤ_idr (x i *ℤ val ρ (step j r s)))
      (λ _. +ℤ_idr (x i *ℤ val ρ (step j r s)))
      (ap₂ (λ y z. x j *ℤ y +ℤ z) (raise_val i r) (raise_val i s)
      ∙ ap (λ z. z +ℤ x i *ℤ val ρ s) (*ℤ_left_comm (x j) (x i) (val ρ r))
      ∙ sym (*ℤ_distribl (x i) (x j *ℤ val ρ r) (val ρ s)))

  pub mul_val : (p t : Poly) → val ρ (mul p t) ≡ val ρ p *ℤ val ρ t
  mul_val (con c) t = scale_val c t
  mul_val (step i p q) t =
      add_val (raise i (mul p t)) (mul q t)
      ∙ ap₂ ◌+ℤ◌ (raise_val i (mul p t) ∙ ap (λ z. x i *ℤ z) (mul_val p t) ∙ sym (*ℤ_assoc (x i) (val ρ p) (val ρ t))) (mul_val q t)
      ∙ sym (*ℤ_distribr (x i *ℤ val ρ p) (val ρ q) (val ρ t))
