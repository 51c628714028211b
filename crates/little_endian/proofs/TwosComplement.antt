-- Signed numbers in machine words: a number of 16 bits read as two's complement fits an i16, and the machine computes it without a loss.
use mathlib.Core.Path.{◌≡◌, refl, sym, subst, ◌∙◌}
use Prim.Native.Nat.{ℕ, suc, ◌-◌, ◌^◌, ◌≤◌, ◌<◌}
use native.Mathlib.Nat.{le_of_lt}
use native.Mathlib.Omega.{arith}
use lib.IntN.{ℤ, pos, negsuc, ◌-ℤ◌}
use lib.Signed.{mag}
use mir.Syntax.{Width, w16, w64}
use mir.Val.{SFits, hbits, to_z, of_z}
use mir.ValLaws.{to_z-of_z}
use borrow.Author.Tests.{lt-ltb, le-ltb}
use Rattle.integer.specs.Magnitude.{Within}
use Rattle.integer.proofs.Machine.{machine, casts, no_overflow, exact}
use Rattle.model.specs.Format.{signed16}

-- a call's result that passed through a word
pub through : (w : Width) {z v : ℤ} → mag z < 2 ^ hbits w → z ≡ v → to_z w (of_z w z) ≡ v
through w {z} h e = to_z-of_z w z (record { sfits = h }) ∙ e

bounded : (n : ℕ) → n < 65536 → Within 65536 (pos n)
bounded n h = record { within = le_of_lt h }

low_value : (n : ℕ) → n < 32768 → to_z w64 n ≡ pos n
low_value n h =
    let b : Within 65536 (pos n) = bounded n (omega arith) in
    exact w64 (search (machine, casts) depth 40 fits 20000, tt, refl)

-- The number read as two's complement is the one that the machine computes. The code has it from the library's own reader and uses none of these; they say what
-- stands behind it: below 32,768 the number itself passes through an i16,
pub low_fits : (n : ℕ) → n < 32768 → SFits w16 (to_z w64 n)
low_fits n h = subst (SFits w16) (sym (low_value n h)) (record { sfits = h })

pub low : (n : ℕ) → n < 32768 → to_z w16 (of_z w16 (to_z w64 n)) ≡ signed16 n
unfolding signed16
low n h = to_z-of_z w16 (to_z w64 n) (low_fits n h) ∙ low_value n h ∙ rw (lt-ltb n 32768 h)

-- and from there on the number less 65,536
module _ (n : ℕ) (h : n < 65536) where
  pub difference_fits : SFits w64 (to_z w64 n -ℤ pos 65536)
  difference_fits =
      let b : Within 65536 (pos n) = bounded n h in
      no_overflow (search (machine, casts) depth 40 fits 20000, tt)

  high_value : to_z w64 (of_z w64 (to_z w64 n -ℤ pos 65536)) ≡ pos n -ℤ pos 65536
  high_value =
      let b : Within 65536 (pos n) = bounded n h in
      exact w64 (search (machine, casts) depth 40 fits 20000, tt, refl)

  below_zero : pos n -ℤ pos 65536 ≡ negsuc (65536 - suc n)
  below_zero = rw (lt-ltb n 65536 h)

  pub high_fits : 32768 ≤ n → SFits w16 (to_z w64 (of_z w64 (to_z w64 n -ℤ pos 65536)))
  high_fits k = subst (SFits w16) (sym (high_value ∙ below_zero)) (record { sfits = omega arith })

  pub high : 32768 ≤ n → to_z w16 (of_z w16 (to_z w64 (of_z w64 (to_z w64 n -ℤ pos 65536)))) ≡ signed16 n
  unfolding signed16
  high k = to_z-of_z w16 _ (high_fits k) ∙ high_value ∙ rw (le-ltb n 32768 k)
