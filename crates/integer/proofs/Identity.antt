-- Identities of ℤ, proved by one term: `ring (a ∷ b ∷ []) (search reify depth 40 fits 200000, tt)` proves l ≡ r, where l and r are written with
-- `+ℤ`, `-ℤ`, `*ℤ`, `neg_ℤ` and literals over the atoms a and b. Atoms are any terms, at most 32, a sum or product in brackets. `search` reads the two sides, and the
-- checker computes that the polynomial of their difference is 0.
use mathlib.Core.Path.{◌≡◌, refl, sym, ◌∙◌, ap, ap₂}
use mathlib.Core.Bool.{true}
use mathlib.Core.List.{List, ◌∷◌}
use Prim.Native.Nat.{ℕ, zero}
use lib.Dec.{T, eqb}
use lib.ListN.{get_or}
use lib.IntN.{ℤ, pos, negsuc, neg_ℤ, ◌+ℤ◌, ◌-ℤ◌, ◌*ℤ◌, +ℤ_idl, +ℤ_idr, +ℤ_invr, *ℤ-zero, *ℤ-one, -ℤ-+ℤ_cancel}
use Rattle.integer.proofs.Ring.{neg_ℤ-*ℤ, one-*ℤ}
use Rattle.integer.proofs.Polynomial.{Poly, con, step, add, mul, scale, val, is_zero, is_zero_val, add_val, mul_val, scale_val}

-- how a number is written over the atoms ρ; a literal is a closed number
pub data Reif (ρ : List ℤ) : ℤ → Type 0 where
  atom : (i : ℕ) → Reif ρ (get_or ρ i (pos zero))
  lit : (n : ℕ) → eqb n n ≡ true → Reif ρ (pos n)
  minus_lit : (n : ℕ) → eqb n n ≡ true → Reif ρ (negsuc n)
  minus : {x : ℤ} → Reif ρ x → Reif ρ (neg_ℤ x)
  sum : {x y : ℤ} → Reif ρ x → Reif ρ y → Reif ρ (x +ℤ y)
  difference : {x y : ℤ} → Reif ρ x → Reif ρ y → Reif ρ (x -ℤ y)
  product : {x y : ℤ} → Reif ρ x → Reif ρ y → Reif ρ (x *ℤ y)

abbrev pub poly : {ρ : List ℤ} {x : ℤ} → Reif ρ x → Poly
poly (atom i) = step i (con (pos 1)) (con (pos 0))
poly (lit n e) = con (pos n)
poly (minus_lit n e) = con (negsuc n)
poly (minus r) = scale (negsuc 0) (poly r)
poly (sum r s) = add (poly r) (poly s)
poly (difference r s) = add (poly r) (scale (negsuc 0) (poly s))
poly (product r s) = mul (poly r) (poly s)

scale_minus : (ρ : List ℤ) (p : Poly) → val ρ (scale (negsuc 0) p) ≡ neg_ℤ (val ρ p)
scale_minus ρ p = scale_val ρ (negsuc 0) p ∙ neg_ℤ-*ℤ (pos 1) (val ρ p) ∙ ap neg_ℤ (one-*ℤ (val ρ p))

poly_val : {ρ : List ℤ} {x : ℤ} (r : Reif ρ x) → val ρ (poly r) ≡ x
poly_val {ρ} (atom i) = +ℤ_idr (get_or ρ i (pos 0) *ℤ pos 1) ∙ unfold lib.IntN.one in *ℤ-one (get_or ρ i (pos 0))
poly_val (lit n e) = refl
poly_val (minus_lit n e) = refl
poly_val {ρ} (minus r) = scale_minus ρ (poly r) ∙ ap neg_ℤ (poly_val r)
poly_val {ρ} (sum r s) = add_val ρ (poly r) (poly s) ∙ ap₂ ◌+ℤ◌ (poly_val r) (poly_val s)
poly_val {ρ} (difference r s) = add_val ρ (poly r) (scale (negsuc 0) (poly s)) ∙ ap₂ ◌+ℤ◌ (poly_val r) (scale_minus ρ (poly s) ∙ ap neg_ℤ (poly_val s))
poly_val {ρ} (product r s) = mul_val ρ (poly r) (poly s) ∙ ap₂ ◌*ℤ◌ (poly_val r) (poly_val s)

-- the two sides of an equation
pub data Sides (ρ : List ℤ) : ℤ → ℤ → Type 0 where
  equal : {x y : ℤ} → Reif ρ x → Reif ρ y → Sides ρ x y

abbrev pub apart : {ρ : List ℤ} {x y : ℤ} → Sides ρ x y → Poly
apart (equal r s) = add (poly r) (scale (negsuc 0) (poly s))

-- equal if their difference is 0
pub by_zero : {x y : ℤ} → x -ℤ y ≡ pos zero → x ≡ y
by_zero {x} {y} e = sym (-ℤ-+ℤ_cancel x y) ∙ ap (λ z. z +ℤ y) e ∙ +ℤ_idl y

apart_val : {ρ : List ℤ} {x y : ℤ} (r : Sides ρ x y) → val ρ (apart r) ≡ x -ℤ y
apart_val (equal r s) = poly_val (difference r s)

pub ring : (ρ : List ℤ) {x y : ℤ} → (r : Sides ρ x y) × T (is_zero (apart r)) → x ≡ y
ring ρ p = by_zero (sym (apart_val p.0) ∙ is_zero_val ρ (apart p.0) p.1)

-- Equations that follow from others: their difference is a sum of multiples of the others' differences, which `ring` shows.
multiple : (k : ℤ) {u v : ℤ} → u ≡ v → k *ℤ (u -ℤ v) ≡ pos zero
multiple k {u} {v} e = ap (λ z. k *ℤ (z -ℤ v)) e ∙ ap (λ z. k *ℤ z) (+ℤ_invr v) ∙ *ℤ-zero k

pub combine₁ : {l r : ℤ} (k : ℤ) {u v : ℤ} → u ≡ v → l -ℤ r ≡ k *ℤ (u -ℤ v) → l ≡ r
combine₁ k e i = by_zero (i ∙ multiple k e)

pub combine₂ : {l r : ℤ} (k₁ : ℤ) {u₁ v₁ : ℤ} → u₁ ≡ v₁ → (k₂ : ℤ) {u₂ v₂ : ℤ} → u₂ ≡ v₂ → l -ℤ r ≡ k₁ *ℤ (u₁ -ℤ v₁) +ℤ k₂ *ℤ (u₂ -ℤ v₂) → l ≡ r
combine₂ k₁ e₁ k₂ e₂ i = by_zero (i ∙ ap₂ ◌+ℤ◌ (multiple k₁ e₁) (multiple k₂ e₂))

pub combine₃ : {l r : ℤ} (k₁ : ℤ) {u₁ v₁ : ℤ} → u₁ ≡ v₁ → (k₂ : ℤ) {u₂ v₂ : ℤ} → u₂ ≡ v₂ → (k₃ : ℤ) {u₃ v₃ : ℤ} → u₃ ≡ v₃
    → l -ℤ r ≡ k₁ *ℤ (u₁ -ℤ v₁) +ℤ k₂ *ℤ (u₂ -ℤ v₂) +ℤ k₃ *ℤ (u₃ -ℤ v₃) → l ≡ r
combine₃ k₁ e₁ k₂ e₂ k₃ e₃ i = by_zero (i ∙ ap₂ ◌+ℤ◌ (ap₂ ◌+ℤ◌ (multiple k₁ e₁) (multiple k₂ e₂)) (multiple k₃ e₃))

-- an atom by its place, one law for each
abbrev pub x₀ : {a₀ : ℤ} {ρ : List ℤ} → Reif (a₀ ∷ ρ) a₀
x₀ = atom 0

abbrev pub x₁ : {a₀ a₁ : ℤ} {ρ : List ℤ} → Reif (a₀ ∷ a₁ ∷ ρ) a₁
x₁ = atom 1

abbrev pub x₂ : {a₀ a₁ a₂ : ℤ} {ρ : List ℤ} → Reif (a₀ ∷ a₁ ∷ a₂ ∷ ρ) a₂
x₂ = atom 2

abbrev pub x₃ : {a₀ a₁ a₂ a₃ : ℤ} {ρ : List ℤ} → Reif (a₀ ∷ a₁ ∷ a₂ ∷ a₃ ∷ ρ) a₃
x₃ = atom 3

abbrev pub x₄ : {a₀ a₁ a₂ a₃ a₄ : ℤ} {ρ : List ℤ} → Reif (a₀ ∷ a₁ ∷ a₂ ∷ a₃ ∷ a₄ ∷ ρ) a₄
x₄ = atom 4

abbrev pub x₅ : {a₀ a₁ a₂ a₃ a₄ a₅ : ℤ} {ρ : List ℤ} → Reif (a₀ ∷ a₁ ∷ a₂ ∷ a₃ ∷ a₄ ∷ a₅ ∷ ρ) a₅
x₅ = atom 5

abbrev pub x₆ : {a₀ a₁ a₂ a₃ a₄ a₅ a₆ : ℤ} {ρ : List ℤ} → Reif (a₀ ∷ a₁ ∷ a₂ ∷ a₃ ∷ a₄ ∷ a₅ ∷ a₆ ∷ ρ) a₆
x₆ = atom 6

abbrev pub x₇ : {a₀ a₁ a₂ a₃ a₄ a₅ a₆ a₇ : ℤ} {ρ : List ℤ} → Reif (a₀ ∷ a₁ ∷ a₂ ∷ a₃ ∷ a₄ ∷ a₅ ∷ a₆ ∷ a₇ ∷ ρ) a₇
x₇ = atom 7

abbrev pub x₈ : {a₀ a₁ a₂ a₃ a₄ a₅ a₆ a₇ a₈ : ℤ} {ρ : List ℤ} → Reif (a₀ ∷ a₁ ∷ a₂ ∷ a₃ ∷ a₄ ∷ a₅ ∷ a₆ ∷ a₇ ∷ a₈ ∷ ρ) a₈
x₈ = atom 8

abbrev pub x₉ : {a₀ a₁ a₂ a₃ a₄ a₅ a₆ a₇ a₈ a₉ : ℤ} {ρ : List ℤ} → Reif (a₀ ∷ a₁ ∷ a₂ ∷ a₃ ∷ a₄ ∷ a₅ ∷ a₆ ∷ a₇ ∷ a₈ ∷ a₉ ∷ ρ) a₉
x₉ = atom 9

abbrev pub x₁₀ : {a₀ a₁ a₂ a₃ a₄ a₅ a₆ a₇ a₈ a₉ a₁₀ : ℤ} {ρ : List ℤ} → Reif (a₀ ∷ a₁ ∷ a₂ ∷ a₃ ∷ a₄ ∷ a₅ ∷ a₆ ∷ a₇ ∷ a₈ ∷ a₉ ∷ a₁₀ ∷ ρ) a₁₀
x₁₀ = atom 10

abbrev pub x₁₁ : {a₀ a₁ a₂ a₃ a₄ a₅ a₆ a₇ a₈ a₉ a₁₀ a₁₁ : ℤ} {ρ : List ℤ} → Reif (a₀ ∷ a₁ ∷ a₂ ∷ a₃ ∷ a₄ ∷ a₅ ∷ a₆ ∷ a₇ ∷ a₈ ∷ a₉ ∷ a₁₀ ∷ a₁₁ ∷ ρ) a₁₁
x₁₁ = atom 11

abbrev pub x₁₂ : {a₀ a₁ a₂ a₃ a₄ a₅ a₆ a₇ a₈ a₉ a₁₀ a₁₁ a₁₂ : ℤ} {ρ : List ℤ} → Reif (a₀ ∷ a₁ ∷ a₂ ∷ a₃ ∷ a₄ ∷ a₅ ∷ a₆ ∷ a₇ ∷ a₈ ∷ a₉ ∷ a₁₀ ∷ a₁₁ ∷ a₁₂ ∷ ρ) a₁₂
x₁₂ = atom 12

abbrev pub x₁₃ : {a₀ a₁ a₂ a₃ a₄ a₅ a₆ a₇ a₈ a₉ a₁₀ a₁₁ a₁₂ a₁₃ : ℤ} {ρ : List ℤ} → Reif (a₀ ∷ a₁ ∷ a₂ ∷ a₃ ∷ a₄ ∷ a₅ ∷ a₆ ∷ a₇ ∷ a₈ ∷ a₉ ∷ a₁₀ ∷ a₁₁ ∷ a₁₂ ∷ a₁₃ ∷ ρ) a₁₃
x₁₃ = atom 13

abbrev pub x₁₄ : {a₀ a₁ a₂ a₃ a₄ a₅ a₆ a₇ a₈ a₉ a₁₀ a₁₁ a₁₂ a₁₃ a₁₄ : ℤ} {ρ : List ℤ} → Reif (a₀ ∷ a₁ ∷ a₂ ∷ a₃ ∷ a₄ ∷ a₅ ∷ a₆ ∷ a₇ ∷ a₈ ∷ a₉ ∷ a₁₀ ∷ a₁₁ ∷ a₁₂ ∷ a₁₃ ∷ a₁₄ ∷ ρ) a₁₄
x₁₄ = atom 14

abbrev pub x₁₅ : {a₀ a₁ a₂ a₃ a₄ a₅ a₆ a₇ a₈ a₉ a₁₀ a₁₁ a₁₂ a₁₃ a₁₄ a₁₅ : ℤ} {ρ : List ℤ} → Reif (a₀ ∷ a₁ ∷ a₂ ∷ a₃ ∷ a₄ ∷ a₅ ∷ a₆ ∷ a₇ ∷ a₈ ∷ a₉ ∷ a₁₀ ∷ a₁₁ ∷ a₁₂ ∷ a₁₃ ∷ a₁₄ ∷ a₁₅ ∷ ρ) a₁₅
x₁₅ = atom 15

abbrev pub x₁₆ : {a₀ a₁ a₂ a₃ a₄ a₅ a₆ a₇ a₈ a₉ a₁₀ a₁₁ a₁₂ a₁₃ a₁₄ a₁₅ a₁₆ : ℤ} {ρ : List ℤ} → Reif (a₀ ∷ a₁ ∷ a₂ ∷ a₃ ∷ a₄ ∷ a₅ ∷ a₆ ∷ a₇ ∷ a₈ ∷ a₉ ∷ a₁₀ ∷ a₁₁ ∷ a₁₂ ∷ a₁₃ ∷ a₁₄ ∷ a₁₅ ∷ a₁₆ ∷ ρ) a₁₆
x₁₆ = atom 16

abbrev pub x₁₇ : {a₀ a₁ a₂ a₃ a₄ a₅ a₆ a₇ a₈ a₉ a₁₀ a₁₁ a₁₂ a₁₃ a₁₄ a₁₅ a₁₆ a₁₇ : ℤ} {ρ : List ℤ} → Reif (a₀ ∷ a₁ ∷ a₂ ∷ a₃ ∷ a₄ ∷ a₅ ∷ a₆ ∷ a₇ ∷ a₈ ∷ a₉ ∷ a₁₀ ∷ a₁₁ ∷ a₁₂ ∷ a₁₃ ∷ a₁₄ ∷ a₁₅ ∷ a₁₆ ∷ a₁₇ ∷ ρ) a₁₇
x₁₇ = atom 17

abbrev pub x₁₈ : {a₀ a₁ a₂ a₃ a₄ a₅ a₆ a₇ a₈ a₉ a₁₀ a₁₁ a₁₂ a₁₃ a₁₄ a₁₅ a₁₆ a₁₇ a₁₈ : ℤ} {ρ : List ℤ} → Reif (a₀ ∷ a₁ ∷ a₂ ∷ a₃ ∷ a₄ ∷ a₅ ∷ a₆ ∷ a₇ ∷ a₈ ∷ a₉ ∷ a₁₀ ∷ a₁₁ ∷ a₁₂ ∷ a₁₃ ∷ a₁₄ ∷ a₁₅ ∷ a₁₆ ∷ a₁₇ ∷ a₁₈ ∷ ρ) a₁₈
x₁₈ = atom 18

abbrev pub x₁₉ : {a₀ a₁ a₂ a₃ a₄ a₅ a₆ a₇ a₈ a₉ a₁₀ a₁₁ a₁₂ a₁₃ a₁₄ a₁₅ a₁₆ a₁₇ a₁₈ a₁₉ : ℤ} {ρ : List ℤ} → Reif (a₀ ∷ a₁ ∷ a₂ ∷ a₃ ∷ a₄ ∷ a₅ ∷ a₆ ∷ a₇ ∷ a₈ ∷ a₉ ∷ a₁₀ ∷ a₁₁ ∷ a₁₂ ∷ a₁₃ ∷ a₁₄ ∷ a₁₅ ∷ a₁₆ ∷ a₁₇ ∷ a₁₈ ∷ a₁₉ ∷ ρ) a₁₉
x₁₉ = atom 19

abbrev pub x₂₀ : {a₀ a₁ a₂ a₃ a₄ a₅ a₆ a₇ a₈ a₉ a₁₀ a₁₁ a₁₂ a₁₃ a₁₄ a₁₅ a₁₆ a₁₇ a₁₈ a₁₉ a₂₀ : ℤ} {ρ : List ℤ} → Reif (a₀ ∷ a₁ ∷ a₂ ∷ a₃ ∷ a₄ ∷ a₅ ∷ a₆ ∷ a₇ ∷ a₈ ∷ a₉ ∷ a₁₀ ∷ a₁₁ ∷ a₁₂ ∷ a₁₃ ∷ a₁₄ ∷ a₁₅ ∷ a₁₆ ∷ a₁₇ ∷ a₁₈ ∷ a₁₉ ∷ a₂₀ ∷ ρ) a₂₀
x₂₀ = atom 20

abbrev pub x₂₁ : {a₀ a₁ a₂ a₃ a₄ a₅ a₆ a₇ a₈ a₉ a₁₀ a₁₁ a₁₂ a₁₃ a₁₄ a₁₅ a₁₆ a₁₇ a₁₈ a₁₉ a₂₀ a₂₁ : ℤ} {ρ : List ℤ} → Reif (a₀ ∷ a₁ ∷ a₂ ∷ a₃ ∷ a₄ ∷ a₅ ∷ a₆ ∷ a₇ ∷ a₈ ∷ a₉ ∷ a₁₀ ∷ a₁₁ ∷ a₁₂ ∷ a₁₃ ∷ a₁₄ ∷ a₁₅ ∷ a₁₆ ∷ a₁₇ ∷ a₁₈ ∷ a₁₉ ∷ a₂₀ ∷ a₂₁ ∷ ρ) a₂₁
x₂₁ = atom 21

abbrev pub x₂₂ : {a₀ a₁ a₂ a₃ a₄ a₅ a₆ a₇ a₈ a₉ a₁₀ a₁₁ a₁₂ a₁₃ a₁₄ a₁₅ a₁₆ a₁₇ a₁₈ a₁₉ a₂₀ a₂₁ a₂₂ : ℤ} {ρ : List ℤ} → Reif (a₀ ∷ a₁ ∷ a₂ ∷ a₃ ∷ a₄ ∷ a₅ ∷ a₆ ∷ a₇ ∷ a₈ ∷ a₉ ∷ a₁₀ ∷ a₁₁ ∷ a₁₂ ∷ a₁₃ ∷ a₁₄ ∷ a₁₅ ∷ a₁₆ ∷ a₁₇ ∷ a₁₈ ∷ a₁₉ ∷ a₂₀ ∷ a₂₁ ∷ a₂₂ ∷ ρ) a₂₂
x₂₂ = atom 22

abbrev pub x₂₃ : {a₀ a₁ a₂ a₃ a₄ a₅ a₆ a₇ a₈ a₉ a₁₀ a₁₁ a₁₂ a₁₃ a₁₄ a₁₅ a₁₆ a₁₇ a₁₈ a₁₉ a₂₀ a₂₁ a₂₂ a₂₃ : ℤ} {ρ : List ℤ} → Reif (a₀ ∷ a₁ ∷ a₂ ∷ a₃ ∷ a₄ ∷ a₅ ∷ a₆ ∷ a₇ ∷ a₈ ∷ a₉ ∷ a₁₀ ∷ a₁₁ ∷ a₁₂ ∷ a₁₃ ∷ a₁₄ ∷ a₁₅ ∷ a₁₆ ∷ a₁₇ ∷ a₁₈ ∷ a₁₉ ∷ a₂₀ ∷ a₂₁ ∷ a₂₂ ∷ a₂₃ ∷ ρ) a₂₃
x₂₃ = atom 23

abbrev pub x₂₄ : {a₀ a₁ a₂ a₃ a₄ a₅ a₆ a₇ a₈ a₉ a₁₀ a₁₁ a₁₂ a₁₃ a₁₄ a₁₅ a₁₆ a₁₇ a₁₈ a₁₉ a₂₀ a₂₁ a₂₂ a₂₃ a₂₄ : ℤ} {ρ : List ℤ} → Reif (a₀ ∷ a₁ ∷ a₂ ∷ a₃ ∷ a₄ ∷ a₅ ∷ a₆ ∷ a₇ ∷ a₈ ∷ a₉ ∷ a₁₀ ∷ a₁₁ ∷ a₁₂ ∷ a₁₃ ∷ a₁₄ ∷ a₁₅ ∷ a₁₆ ∷ a₁₇ ∷ a₁₈ ∷ a₁₉ ∷ a₂₀ ∷ a₂₁ ∷ a₂₂ ∷ a₂₃ ∷ a₂₄ ∷ ρ) a₂₄
x₂₄ = atom 24

abbrev pub x₂₅ : {a₀ a₁ a₂ a₃ a₄ a₅ a₆ a₇ a₈ a₉ a₁₀ a₁₁ a₁₂ a₁₃ a₁₄ a₁₅ a₁₆ a₁₇ a₁₈ a₁₉ a₂₀ a₂₁ a₂₂ a₂₃ a₂₄ a₂₅ : ℤ} {ρ : List ℤ} → Reif (a₀ ∷ a₁ ∷ a₂ ∷ a₃ ∷ a₄ ∷ a₅ ∷ a₆ ∷ a₇ ∷ a₈ ∷ a₉ ∷ a₁₀ ∷ a₁₁ ∷ a₁₂ ∷ a₁₃ ∷ a₁₄ ∷ a₁₅ ∷ a₁₆ ∷ a₁₇ ∷ a₁₈ ∷ a₁₉ ∷ a₂₀ ∷ a₂₁ ∷ a₂₂ ∷ a₂₃ ∷ a₂₄ ∷ a₂₅ ∷ ρ) a₂₅
x₂₅ = atom 25

abbrev pub x₂₆ : {a₀ a₁ a₂ a₃ a₄ a₅ a₆ a₇ a₈ a₉ a₁₀ a₁₁ a₁₂ a₁₃ a₁₄ a₁₅ a₁₆ a₁₇ a₁₈ a₁₉ a₂₀ a₂₁ a₂₂ a₂₃ a₂₄ a₂₅ a₂₆ : ℤ} {ρ : List ℤ} → Reif (a₀ ∷ a₁ ∷ a₂ ∷ a₃ ∷ a₄ ∷ a₅ ∷ a₆ ∷ a₇ ∷ a₈ ∷ a₉ ∷ a₁₀ ∷ a₁₁ ∷ a₁₂ ∷ a₁₃ ∷ a₁₄ ∷ a₁₅ ∷ a₁₆ ∷ a₁₇ ∷ a₁₈ ∷ a₁₉ ∷ a₂₀ ∷ a₂₁ ∷ a₂₂ ∷ a₂₃ ∷ a₂₄ ∷ a₂₅ ∷ a₂₆ ∷ ρ) a₂₆
x₂₆ = atom 26

abbrev pub x₂₇ : {a₀ a₁ a₂ a₃ a₄ a₅ a₆ a₇ a₈ a₉ a₁₀ a₁₁ a₁₂ a₁₃ a₁₄ a₁₅ a₁₆ a₁₇ a₁₈ a₁₉ a₂₀ a₂₁ a₂₂ a₂₃ a₂₄ a₂₅ a₂₆ a₂₇ : ℤ} {ρ : List ℤ} → Reif (a₀ ∷ a₁ ∷ a₂ ∷ a₃ ∷ a₄ ∷ a₅ ∷ a₆ ∷ a₇ ∷ a₈ ∷ a₉ ∷ a₁₀ ∷ a₁₁ ∷ a₁₂ ∷ a₁₃ ∷ a₁₄ ∷ a₁₅ ∷ a₁₆ ∷ a₁₇ ∷ a₁₈ ∷ a₁₉ ∷ a₂₀ ∷ a₂₁ ∷ a₂₂ ∷ a₂₃ ∷ a₂₄ ∷ a₂₅ ∷ a₂₆ ∷ a₂₇ ∷ ρ) a₂₇
x₂₇ = atom 27

abbrev pub x₂₈ : {a₀ a₁ a₂ a₃ a₄ a₅ a₆ a₇ a₈ a₉ a₁₀ a₁₁ a₁₂ a₁₃ a₁₄ a₁₅ a₁₆ a₁₇ a₁₈ a₁₉ a₂₀ a₂₁ a₂₂ a₂₃ a₂₄ a₂₅ a₂₆ a₂₇ a₂₈ : ℤ} {ρ : List ℤ} → Reif (a₀ ∷ a₁ ∷ a₂ ∷ a₃ ∷ a₄ ∷ a₅ ∷ a₆ ∷ a₇ ∷ a₈ ∷ a₉ ∷ a₁₀ ∷ a₁₁ ∷ a₁₂ ∷ a₁₃ ∷ a₁₄ ∷ a₁₅ ∷ a₁₆ ∷ a₁₇ ∷ a₁₈ ∷ a₁₉ ∷ a₂₀ ∷ a₂₁ ∷ a₂₂ ∷ a₂₃ ∷ a₂₄ ∷ a₂₅ ∷ a₂₆ ∷ a₂₇ ∷ a₂₈ ∷ ρ) a₂₈
x₂₈ = atom 28

abbrev pub x₂₉ : {a₀ a₁ a₂ a₃ a₄ a₅ a₆ a₇ a₈ a₉ a₁₀ a₁₁ a₁₂ a₁₃ a₁₄ a₁₅ a₁₆ a₁₇ a₁₈ a₁₉ a₂₀ a₂₁ a₂₂ a₂₃ a₂₄ a₂₅ a₂₆ a₂₇ a₂₈ a₂₉ : ℤ} {ρ : List ℤ} → Reif (a₀ ∷ a₁ ∷ a₂ ∷ a₃ ∷ a₄ ∷ a₅ ∷ a₆ ∷ a₇ ∷ a₈ ∷ a₉ ∷ a₁₀ ∷ a₁₁ ∷ a₁₂ ∷ a₁₃ ∷ a₁₄ ∷ a₁₅ ∷ a₁₆ ∷ a₁₇ ∷ a₁₈ ∷ a₁₉ ∷ a₂₀ ∷ a₂₁ ∷ a₂₂ ∷ a₂₃ ∷ a₂₄ ∷ a₂₅ ∷ a₂₆ ∷ a₂₇ ∷ a₂₈ ∷ a₂₉ ∷ ρ) a₂₉
x₂₉ = atom 29

abbrev pub x₃₀ : {a₀ a₁ a₂ a₃ a₄ a₅ a₆ a₇ a₈ a₉ a₁₀ a₁₁ a₁₂ a₁₃ a₁₄ a₁₅ a₁₆ a₁₇ a₁₈ a₁₉ a₂₀ a₂₁ a₂₂ a₂₃ a₂₄ a₂₅ a₂₆ a₂₇ a₂₈ a₂₉ a₃₀ : ℤ} {ρ : List ℤ} → Reif (a₀ ∷ a₁ ∷ a₂ ∷ a₃ ∷ a₄ ∷ a₅ ∷ a₆ ∷ a₇ ∷ a₈ ∷ a₉ ∷ a₁₀ ∷ a₁₁ ∷ a₁₂ ∷ a₁₃ ∷ a₁₄ ∷ a₁₅ ∷ a₁₆ ∷ a₁₇ ∷ a₁₈ ∷ a₁₉ ∷ a₂₀ ∷ a₂₁ ∷ a₂₂ ∷ a₂₃ ∷ a₂₄ ∷ a₂₅ ∷ a₂₆ ∷ a₂₇ ∷ a₂₈ ∷ a₂₉ ∷ a₃₀ ∷ ρ) a₃₀
x₃₀ = atom 30

abbrev pub x₃₁ : {a₀ a₁ a₂ a₃ a₄ a₅ a₆ a₇ a₈ a₉ a₁₀ a₁₁ a₁₂ a₁₃ a₁₄ a₁₅ a₁₆ a₁₇ a₁₈ a₁₉ a₂₀ a₂₁ a₂₂ a₂₃ a₂₄ a₂₅ a₂₆ a₂₇ a₂₈ a₂₉ a₃₀ a₃₁ : ℤ} {ρ : List ℤ} → Reif (a₀ ∷ a₁ ∷ a₂ ∷ a₃ ∷ a₄ ∷ a₅ ∷ a₆ ∷ a₇ ∷ a₈ ∷ a₉ ∷ a₁₀ ∷ a₁₁ ∷ a₁₂ ∷ a₁₃ ∷ a₁₄ ∷ a₁₅ ∷ a₁₆ ∷ a₁₇ ∷ a₁₈ ∷ a₁₉ ∷ a₂₀ ∷ a₂₁ ∷ a₂₂ ∷ a₂₃ ∷ a₂₄ ∷ a₂₅ ∷ a₂₆ ∷ a₂₇ ∷ a₂₈ ∷ a₂₉ ∷ a₃₀ ∷ a₃₁ ∷ ρ) a₃₁
x₃₁ = atom 31

pub ruleset reify = (equal, lit, minus_lit, x₀, x₁, x₂, x₃, x₄, x₅, x₆, x₇, x₈, x₉, x₁₀, x₁₁, x₁₂, x₁₃, x₁₄, x₁₅, x₁₆, x₁₇, x₁₈, x₁₉, x₂₀, x₂₁, x₂₂, x₂₃, x₂₄, x₂₅, x₂₆, x₂₇, x₂₈, x₂₉, x₃₀, x₃₁, difference, sum, product, minus)
