-- What was put, and the texts that are left, are together all of it.
use Rattle.std.proofs.Common.{arith, length, ap}
use Rattle.std.proofs.lemmas.Grind.{common_steps}
use Rattle.numerals.proofs.Lists.{each_from, each_none}
use Rattle.numerals.proofs.put_each.Goals as goal

pub put_text-requires : goal.put_text-requires
put_text-requires g c =
    let from = each_from g.T.Spaced.spaced c.args.items.now c.loop-item.item-index c.item-item.result c.loop-item-test.true in
    let own = ap g.T.Spaced.spaced c.item-item.is in
    let long = ap length from in
    let all = ap length c.loop-item.invariant in
    grind (arith, common_steps)

pub loop-item-preserved : goal.loop-item-preserved
loop-item-preserved g c =
    let from = each_from g.T.Spaced.spaced c.args.items.now c.loop-item.item-index c.item-item.result c.loop-item-test.true in
    let own = ap g.T.Spaced.spaced c.item-item.is in
    grind (arith, common_steps)

pub returns : goal.returns
returns g c =
    let none = each_none g.T.Spaced.spaced c.args.items.now c.loop-item.item-index c.loop-item-test.false in
    grind (arith, common_steps)
