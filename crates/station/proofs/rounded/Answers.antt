-- `rounded` meets its contract: twice the remainder is compared with the divisor by comparing the remainder with its half.
use mathlib.Core.Path.{refl}
use native.Mathlib.Omega.{arith}
use Rattle.station.proofs.Rounding.{back_le, whole_small, under_half, over_half, at_half}
use Rattle.station.proofs.rounded.Goals as goal

pub overflow_sub-rest : goal.overflow_sub-rest
overflow_sub-rest c = back_le c.args.p c.args.shift c.requires.0 c.requires.1 c.requires.2

pub returns-then-rest-half : goal.returns-then-rest-half
returns-then-rest-half c =
    under_half c.args.p c.args.shift c.requires.0 c.requires.1 c.requires.2 _ _ refl refl c.if-rest-half.true

pub overflow_add-result : goal.overflow_add-result
overflow_add-result c =
    omega (arith, whole_small c.args.p c.args.shift c.requires.0 c.requires.1 c.requires.2)

pub returns-then-half-rest : goal.returns-then-half-rest
returns-then-half-rest c =
    over_half c.args.p c.args.shift c.requires.0 c.requires.1 c.requires.2 _ _ refl refl c.if-half-rest.true

pub overflow_add-result-2 : goal.overflow_add-result-2
overflow_add-result-2 c =
    omega (arith, whole_small c.args.p c.args.shift c.requires.0 c.requires.1 c.requires.2)

pub returns : goal.returns
returns c =
    at_half c.args.p c.args.shift c.requires.0 c.requires.1 c.requires.2 _ _ refl refl c.if-rest-half.false c.if-half-rest.false
