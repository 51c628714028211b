-- The first 65,535 spans look at no more than 128 segments each, and a number with its line's end has at most twelve bytes.
use Rattle.std.proofs.Common.{[], arith}
use Rattle.std.proofs.lemmas.Grind.{common_steps}
use Rattle.text.proofs.Lengths.{newline_length, numbers_length}
use Rattle.worst_case.proofs.Reached.{bounds_few}
use Rattle.rows_worst.proofs.put_looks.Goals as goal

pub overflow_cast-worst_looks : goal.overflow_cast-worst_looks
overflow_cast-worst_looks c =
    record { fits = omega (arith, c.worst_looks.ensures.reached, bounds_few 1 c.args.k, c.if-k-le65535.true) }

pub put_last-requires : goal.put_last-requires
put_last-requires c = grind (arith, common_steps, numbers_length _ [] (overflow_cast-worst_looks c).fits, newline_length)
