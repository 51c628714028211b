use Rattle.std.proofs.Common.{arith, length, ap}
use Rattle.std.proofs.lemmas.Grind.{common_steps}
use Rattle.model.proofs.Ranges.{range_append, range_length}
use Rattle.walk.proofs.order.walk_run.Goals as goal

pub push-requires : goal.push-requires
push-requires c =
    let walked = ap length c.loop-k.invariant in
    let own = range_length c.args.run.first c.loop-k.k in
    grind (arith, common_steps)

pub loop-k-preserved : goal.loop-k-preserved
loop-k-preserved c =
    let more = range_append c.args.run.first c.loop-k.k in
    grind (arith, common_steps)
