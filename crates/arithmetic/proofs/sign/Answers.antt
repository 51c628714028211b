-- `arithmetic::sign` meets its contract: std's sign is the specification's.
use Rattle.std.proofs.Common.{◌≡◌, zero, suc, ℤ, pos, negsuc, refl, ap, arith, rules}
use Rattle.std.specs.Int.{int_signum}
use Rattle.integer.specs.Magnitude.{sign_of}
use Rattle.arithmetic.proofs.sign.Goals as goal

signum_is : (z : ℤ) → int_signum z ≡ sign_of z
unfolding sign_of
signum_is (pos zero) = refl
signum_is (pos (suc n)) = ap pos (omega arith)
signum_is (negsuc n) = refl

pub returns : goal.returns
returns c = search (rules, signum_is c.args.x)
