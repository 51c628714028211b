-- `arithmetic::cross_part` meets its contract: the `requires` bounds every number that passes through a word. Assumes nothing.
use mathlib.Core.Path.{refl}
use native.Mathlib.Omega.{arith}
use lib.Dec.{lt→ltb}
use mir.Syntax.{w64}
use Rattle.integer.proofs.Machine.{words, no_overflow, exact}
use Rattle.arithmetic.proofs.cross_part.Statement.{statement}
use Rattle.arithmetic.proofs.cross_part.Tie as tie

pub cross_part_spec : {M : Type 1} → statement M
cross_part_spec =
    tie.close
    (tie.spec
    (λ c. no_overflow (search words depth 40 fits 20000, omega (arith, lt→ltb)))
    (λ c. no_overflow (search words depth 40 fits 20000, omega (arith, lt→ltb)))
    (λ c. no_overflow (search words depth 40 fits 20000, omega (arith, lt→ltb)))
    (λ c. exact w64 (search words depth 40 fits 20000, omega (arith, lt→ltb), refl)))
