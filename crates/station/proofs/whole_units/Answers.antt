-- `whole_units` meets its contract: a NaN is told before its bits are read, and the bits tell the rest.
use mathlib.Core.Path.{sym, subst, ◌∙◌}
use mathlib.Core.Bool.{true, false}
use native.Mathlib.Omega.{arith}
use lib.Dec.{T}
use lib.Ieee.{binary64, fits}
use borrow.Author.Tests.{le-leb, lt-leb}
use Rattle.station.proofs.Doubles.{refused, nan_out, beyond_out, within_is, word_is, word_opposite}
use Rattle.station.proofs.whole_units.Goals as goal

pub returns-then-is_nan : goal.returns-then-is_nan
returns-then-is_nan c = refused (nan_out _ (sym c.is_nan.ensures.value ∙ c.if-is_nan.true))

pub returns-then-size-gt-MOST : goal.returns-then-size-gt-MOST
returns-then-size-gt-MOST c = refused (beyond_out _ (let held : T (fits binary64 c.args.x) = subst T (sym c.well_formed.0.1) tt in held) c.size_of-size.ensures (omega (arith, c.if-size-gt-MOST.true)))

pub returns-then-bits-ge-SIGN : goal.returns-then-bits-ge-SIGN
returns-then-bits-ge-SIGN c =
    within_is _ (let held : T (fits binary64 c.args.x) = subst T (sym c.well_formed.0.1) tt in held) c.size_of-size.ensures true (le-leb _ _ c.if-bits-ge-SIGN.true) c.if-size-gt-MOST.false
    (word_opposite _ c.if-size-gt-MOST.false)

pub returns-else-bits-ge-SIGN : goal.returns-else-bits-ge-SIGN
returns-else-bits-ge-SIGN c =
    within_is _ (let held : T (fits binary64 c.args.x) = subst T (sym c.well_formed.0.1) tt in held) c.size_of-size.ensures false (lt-leb _ _ c.if-bits-ge-SIGN.false) c.if-size-gt-MOST.false
    (word_is _ c.if-size-gt-MOST.false)
