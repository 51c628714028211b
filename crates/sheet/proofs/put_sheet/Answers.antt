-- The buffer has room for every bill.
use Rattle.std.proofs.Common.{arith}
use Rattle.std.proofs.lemmas.Grind.{common_steps}
use Rattle.sheet.specs.Sheet.{sheet}
use Rattle.sheet.proofs.Rooms.{sheet_length}
use Rattle.sheet.proofs.put_sheet.Goals as goal

pub put_view-requires : goal.put_view-requires
unfolding sheet
put_view-requires c =
    grind (arith, common_steps, sheet_length c.args.counts.now c.ranges.width c.ranges.height c.ranges.lens c.requires c.type_inv.counts)

pub put_panels-requires : goal.put_panels-requires
unfolding sheet
put_panels-requires c =
    grind (arith, common_steps, sheet_length c.args.counts.now c.ranges.width c.ranges.height c.ranges.lens c.requires c.type_inv.counts)

pub put_nothing-requires : goal.put_nothing-requires
unfolding sheet
put_nothing-requires c =
    grind (arith, common_steps, sheet_length c.args.counts.now c.ranges.width c.ranges.height c.ranges.lens c.requires c.type_inv.counts)

pub put_line-requires : goal.put_line-requires
unfolding sheet
put_line-requires c =
    grind (arith, common_steps, sheet_length c.args.counts.now c.ranges.width c.ranges.height c.ranges.lens c.requires c.type_inv.counts)
