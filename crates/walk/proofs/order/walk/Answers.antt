use Rattle.std.proofs.Common.{arith, length, ap}
use Rattle.geometry.specs.Machine.{vec_of}
use Rattle.walk.proofs.Descents.{whole_length, whole_walk}
use Rattle.walk.proofs.order.walk.Goals as goal

pub walk_below-requires : goal.walk_below-requires
walk_below-requires c =
    let s = c.args.scene.now in
    let none = ap length c.new-walked.ensures in
    (c.requires, omega (arith, whole_length s.bytes.now s.layout s.checked (vec_of c.args.eye), s.checked.laid.few_patches))

pub returns : goal.returns
returns c =
    let s = c.args.scene.now in
    whole_walk s.bytes.now s.layout s.checked _ (rw c.new-walked.ensures at c.walk_below.ensures)
