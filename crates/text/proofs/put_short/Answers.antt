-- `text::put_short` meets its contract: the digits of a number of two, three and four digits, put one after the other.
use Rattle.std.proofs.Common.{arith}
use Rattle.std.proofs.lemmas.Grind.{common_steps}
use Rattle.text.proofs.Decimals.{decimal_two, decimal_three, decimal_four}
use Rattle.text.proofs.put_short.Goals as goal

pub returns-then-n-lt100 : goal.returns-then-n-lt100
returns-then-n-lt100 g c =
    let digits = decimal_two {n = c.args.n} (omega (arith, c.if-n-lt10.false)) (omega (arith, c.if-n-lt100.true)) in
    grind (arith, common_steps)

pub returns-then-n-lt1000 : goal.returns-then-n-lt1000
returns-then-n-lt1000 g c =
    let digits = decimal_three {n = c.args.n} (omega (arith, c.if-n-lt100.false)) (omega (arith, c.if-n-lt1000.true)) in
    grind (arith, common_steps)

pub returns-else-n-lt1000 : goal.returns-else-n-lt1000
returns-else-n-lt1000 g c =
    let digits = decimal_four {n = c.args.n} (omega (arith, c.if-n-lt1000.false)) c.requires.0 in
    grind (arith, common_steps)
