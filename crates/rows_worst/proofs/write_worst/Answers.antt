-- Two numbers of at most eleven bytes each, and the rest of the line.
use Rattle.std.proofs.Common.{arith, rules}
use Rattle.std.proofs.lemmas.Grind.{common_steps}
use Rattle.text.proofs.Lengths.{decimal_length, spaced_length}
use Rattle.rows_worst.proofs.write_worst.Goals as goal

pub put_number-requires : goal.put_number-requires
put_number-requires c = grind (arith, common_steps, decimal_length c.worst_span-span.result.first (search rules))

pub put_spaced-requires : goal.put_spaced-requires
put_spaced-requires c = grind (arith, common_steps, decimal_length c.worst_span-span.result.first (search rules), spaced_length c.worst_span-span.result.last (search rules))

pub put_looks-requires : goal.put_looks-requires
put_looks-requires c = grind (arith, common_steps, decimal_length c.worst_span-span.result.first (search rules), spaced_length c.worst_span-span.result.last (search rules))
