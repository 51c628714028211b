-- What was put, and the texts that are left, are together all of it.
use Rattle.std.proofs.Common.{arith, length, ap}
use Rattle.std.proofs.lemmas.Grind.{common_steps}
use Rattle.text.specs.Text.{spaced}
use Rattle.numerals.proofs.Lists.{each_from, each_none}
use Rattle.numerals.proofs.put_numbers.Goals as goal

pub put_spaced-requires : goal.put_spaced-requires
put_spaced-requires g c =
    let from = each_from spaced c.args.numbers.now c.loop-number.number-index 0 c.loop-number-test.true in
    let own = ap spaced c.from.ensures in
    let long = ap length from in
    let all = ap length c.loop-number.invariant in
    grind (arith, common_steps)

pub loop-number-preserved : goal.loop-number-preserved
loop-number-preserved g c =
    let from = each_from spaced c.args.numbers.now c.loop-number.number-index 0 c.loop-number-test.true in
    let own = ap spaced c.from.ensures in
    grind (arith, common_steps)

pub returns : goal.returns
returns g c =
    let none = each_none spaced c.args.numbers.now c.loop-number.number-index c.loop-number-test.false in
    grind (arith, common_steps)
