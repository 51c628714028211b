-- The buffer has room for every line.
use Rattle.std.proofs.Common.{arith}
use Rattle.std.proofs.lemmas.Grind.{common_steps}
use Rattle.text.proofs.Lengths.{decimal_length}
use Rattle.row_lines.proofs.Rooms.{numbers_length, used_text_length, words_length}
use Rattle.row_lines.proofs.Used.{used_whole}
use Rattle.row_lines.proofs.put_row.Goals as goal

pub put_number-requires : goal.put_number-requires
put_number-requires c = grind (arith, common_steps, decimal_length c.args.number c.ranges.number.fits)

pub put_numbers-requires : goal.put_numbers-requires
put_numbers-requires c = grind (arith, common_steps, decimal_length c.args.number c.ranges.number.fits, numbers_length c.args.reported.now c.type_inv.reported)

pub push-requires : goal.push-requires
push-requires c = grind (arith, common_steps, decimal_length c.args.number c.ranges.number.fits, numbers_length c.args.reported.now c.type_inv.reported)

pub put_numbers-requires-2 : goal.put_numbers-requires-2
put_numbers-requires-2 c = grind (arith, common_steps, decimal_length c.args.number c.ranges.number.fits, numbers_length c.args.reported.now c.type_inv.reported, used_text_length c.args.pairs.now c.fits-pairs, used_whole c.args.pairs.now c.told-pairs)

pub put_text-requires : goal.put_text-requires
put_text-requires c = grind (arith, common_steps, decimal_length c.args.number c.ranges.number.fits, numbers_length c.args.reported.now c.type_inv.reported, used_text_length c.args.pairs.now c.fits-pairs, used_whole c.args.pairs.now c.told-pairs)

pub put_each-requires : goal.put_each-requires
put_each-requires c = grind (arith, common_steps, decimal_length c.args.number c.ranges.number.fits, numbers_length c.args.reported.now c.type_inv.reported, used_text_length c.args.pairs.now c.fits-pairs, used_whole c.args.pairs.now c.told-pairs, words_length c.args.words.now)

pub put_text-requires-2 : goal.put_text-requires-2
put_text-requires-2 c = grind (arith, common_steps, decimal_length c.args.number c.ranges.number.fits, numbers_length c.args.reported.now c.type_inv.reported, used_text_length c.args.pairs.now c.fits-pairs, used_whole c.args.pairs.now c.told-pairs, words_length c.args.words.now)

pub put_numbers-requires-3 : goal.put_numbers-requires-3
put_numbers-requires-3 c = grind (arith, common_steps, decimal_length c.args.number c.ranges.number.fits, numbers_length c.args.reported.now c.type_inv.reported, used_text_length c.args.pairs.now c.fits-pairs, used_whole c.args.pairs.now c.told-pairs, words_length c.args.words.now, numbers_length c.args.cells.now c.type_inv.cells)

pub push-requires-2 : goal.push-requires-2
push-requires-2 c = grind (arith, common_steps, decimal_length c.args.number c.ranges.number.fits, numbers_length c.args.reported.now c.type_inv.reported, used_text_length c.args.pairs.now c.fits-pairs, used_whole c.args.pairs.now c.told-pairs, words_length c.args.words.now, numbers_length c.args.cells.now c.type_inv.cells)
