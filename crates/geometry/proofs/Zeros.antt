-- A number that is tested for zero by its word.
use mathlib.Core.Path.{◌≡◌, refl, ap}
use mathlib.Core.Bool.{true, false}
use Prim.Native.Nat.{ℕ, zero, suc, ◌^◌}
use lib.IntN.{ℤ, pos, negsuc}
use lib.Dec.{T, ltb, ltb→lt, lit<}
use mir.Syntax.{w64}
use mir.Val.{of_z}
use Rattle.integer.specs.Magnitude.{Within}
use Rattle.integer.proofs.Magnitude.{within_fits, within_literal}
use Rattle.integer.proofs.Comparison.{same}
use Rattle.model.specs.Vector.{is_zero}

pub zero_word : {n : ℕ} {z : ℤ} → T (ltb n (2 ^ 63)) → Within n z → of_z w64 z ≡ 0 → is_zero z ≡ true
zero_word {n} {z} t w e =
    let f : Within 0 (pos 0) = within_literal tt in
    ap is_zero (same w64 (within_fits {w = w64} w (ltb→lt n (2 ^ 63) t)) (within_fits {w = w64} f (lit< tt)) e)

pub other_word : (z : ℤ) → (of_z w64 z ≡ 0 → ⊥) → is_zero z ≡ false
other_word (pos zero) h = absurd (h refl)
other_word (pos (suc n)) h = refl
other_word (negsuc n) h = refl
