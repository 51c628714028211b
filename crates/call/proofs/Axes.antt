-- Question 14: the vectors that passed the range are small, and the product's sign is the model's.
use mathlib.Core.Path.{◌≡◌, sym, ◌∙◌, ap}
use mathlib.Core.Bool.{Bool, true, false, ◌&&◌}
use Prim.Native.Nat.{ℕ, ◌^◌, ◌≤◌, ◌<◌}
use lib.Dec.{T}
use lib.IntN.{ℤ, pos}
use lib.Signed.{mag, lt_z}
use mir.Syntax.{w64}
use mir.Val.{hbits, to_z, of_z}
use mir.ValLaws.{to_z-of_z}
use Rattle.model.specs.Vector.{Vec, dot, cross}
use Rattle.model.specs.Questions.{parts_up_to}
use Rattle.model.proofs.Tests.{is_true, both}
use Rattle.geometry.specs.declared.Vector.{Vector}
use Rattle.geometry.specs.Machine.{vec_of, Bounded, VectorIs}
use Rattle.geometry.proofs.Sizes.{parts_bounded}

-- vectors that passed the range
module _ (v f u : Vector) {b : Bool} (e : b ≡ (parts_up_to 100 (vec_of v) && parts_up_to 100 (vec_of f) && parts_up_to 100 (vec_of u))) (t : b ≡ true) where
  abbrev first : Bool
  first = parts_up_to 100 (vec_of v)

  abbrev second : Bool
  second = parts_up_to 100 (vec_of f)

  passed : T (first && second) × T (parts_up_to 100 (vec_of u))
  passed = (both (first && second) (parts_up_to 100 (vec_of u))).0 (is_true (sym e ∙ t))

  pub first_short : {m : ℕ} → 100 ≤ m → Bounded m v
  first_short h = parts_bounded 100 v h ((both first second).0 passed.0).0

  pub second_short : {m : ℕ} → 100 ≤ m → Bounded m f
  second_short h = parts_bounded 100 f h ((both first second).0 passed.0).1

  pub third_short : {m : ℕ} → 100 ≤ m → Bounded m u
  third_short h = parts_bounded 100 u h passed.1

-- the range is asked first, and then the product decides
pub range_decides : {p : Bool} (q : Bool) {b : Bool} → b ≡ p → b ≡ false → b ≡ (p && q)
range_decides q e f = f ∙ ap (λ (p : Bool). p && q) (sym f ∙ e)

pub product_decides : {p q b r : Bool} → b ≡ p → b ≡ true → r ≡ q → r ≡ (p && q)
product_decides {q = q} e t d = d ∙ ap (λ (p : Bool). p && q) (sym t ∙ e)

pub product_sign :
    {n : ℕ} (v f u : Vec) {p : Vector} {r : ℤ} → VectorIs n (cross f u) p → r ≡ dot v (vec_of p) → mag r < 2 ^ hbits w64 →
    lt_z (pos 0) (to_z w64 (of_z w64 r)) ≡ lt_z (pos 0) (dot v (cross f u))
product_sign v f u {r = r} is e h =
    ap (lt_z (pos 0)) (to_z-of_z w64 r (record { sfits = h }) ∙ e ∙ ap (dot v) is.value)
