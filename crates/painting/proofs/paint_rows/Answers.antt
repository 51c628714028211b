-- `paint_rows` meets its contract.
use mathlib.Core.Path.{◌∙◌}
use lib.ListN.{length}
use Rattle.painting.proofs.Fresh.{walk_fresh}
use Rattle.painting.proofs.Joining.{rows_painted}
use Rattle.painting.proofs.paint_rows.Goals as goal

pub paint_walk-requires : goal.paint_walk-requires
paint_walk-requires c =
    record {
      paintable = c.requires.paintable;
      cells = c.clear.auto.cells ∙ c.requires.framed.cells;
      entries = c.clear_table.auto.booked ∙ c.requires.entries;
      fresh =
          walk_fresh c.args.scene.now.bytes.now c.args.sight c.args.order.now (length c.args.picture.now) (length c.args.booked.now)
          c.requires.framed.low c.fresh-row.ensures.fresh c.fresh-row.ensures.zeros c.requires.framed.cells c.clear.ensures c.clear_table.ensures;
    }

pub write_rows-requires : goal.write_rows-requires
write_rows-requires c = record { low = c.requires.framed.low; room = c.requires.framed.rows }

pub write_maps-requires : goal.write_maps-requires
write_maps-requires c = record { low = c.requires.framed.low; room = c.requires.framed.words }

pub returns : goal.returns
returns c =
    let whole = c.paint_walk.ensures in record { painted = rows_painted whole (c.paint_walk.auto.picture ∙ c.clear.auto.cells ∙ c.requires.framed.cells) c.write_rows.ensures.pairs c.write_maps.ensures.words; counted = whole.booked_are }
