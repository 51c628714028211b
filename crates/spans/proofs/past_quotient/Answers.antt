-- `spans::past_quotient` meets its contract: the casts change nothing, since neither number is below 0.
use mathlib.Core.Path.{◌≡◌, ap₂}
use Prim.Native.Nat.{◌/◌, ◌<◌}
use native.Mathlib.Nat.{div-le_self}
use native.Mathlib.Omega.{arith}
use lib.Dec.{T, ltb→lt}
use lib.IntN.{ℤ, pos, negsuc, nat_abs}
use lib.Signed.{non_neg, lt_z, ◌≤ℤ◌, ◌<ℤ◌, yes_non_neg}
use mir.Syntax.{w64}
use mir.Val.{Fits, SFits, to_z, of_z}
use mir.ValLaws.{to_z-of_z}
use Rattle.integer.proofs.Order.{<→≤}
use Rattle.integer.proofs.Magnitude.{within_signed}
use Rattle.spans.proofs.past_quotient.Goals as goal

-- a number not below 0 passes through a cast to an unsigned type

as_unsigned : {z : ℤ} → SFits w64 z → pos 0 ≤ℤ z → T (non_neg (to_z w64 (of_z w64 z))) × Fits w64 (nat_abs (to_z w64 (of_z w64 z)))
as_unsigned {z} f h = rw (to_z-of_z w64 z f) (yes_non_neg h, record { fits = omega (arith, (within_signed f).within) })

size_above : {z : ℤ} → pos 0 <ℤ z → 0 < nat_abs z
size_above {z} h = go z h.lt
  where
    go : (z : ℤ) → T (lt_z (pos 0) z) → 0 < nat_abs z
    go (pos n) t = ltb→lt 0 n t
    go (negsuc n) t = absurd t

quotient : {n d : ℤ} → SFits w64 n → SFits w64 d → nat_abs (to_z w64 (of_z w64 n)) / nat_abs (to_z w64 (of_z w64 d)) ≡ nat_abs n / nat_abs d
quotient {n} {d} f g = ap₂ (λ (x y : ℤ). nat_abs x / nat_abs y) (to_z-of_z w64 n f) (to_z-of_z w64 d g)

pub overflow_cast-result : goal.overflow_cast-result
overflow_cast-result c = as_unsigned c.ranges.n c.requires.0

pub overflow_cast-result-2 : goal.overflow_cast-result-2
overflow_cast-result-2 c = as_unsigned c.ranges.d (<→≤ c.requires.1)

pub nonzero_div-result : goal.nonzero_div-result
nonzero_div-result c = rw (to_z-of_z w64 c.args.d c.ranges.d) (size_above c.requires.1)

pub overflow_add-result : goal.overflow_add-result
overflow_add-result c =
    rw (quotient c.ranges.n c.ranges.d)
    (record { fits = omega (arith, (within_signed c.ranges.n).within, div-le_self (nat_abs c.args.n) (nat_abs c.args.d)) })

pub returns : goal.returns
returns c = rw (quotient c.ranges.n c.ranges.d)
