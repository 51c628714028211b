-- `spans::number_at` meets its contract: the bounds leave room for every number on the way.
use mathlib.Core.Path.{refl}
use lib.IntN.{pos}
use mir.Syntax.{w64}
use Rattle.integer.specs.Magnitude.{Within}
use Rattle.integer.proofs.Machine.{machine, casts, no_overflow, exact}
use Rattle.spans.proofs.number_at.Goals as goal

pub overflow_mul-result : goal.overflow_mul-result
overflow_mul-result c =
    let h : Within 1024 (pos c.args.i) = record { within = c.requires.1 } in
    no_overflow (search (machine, casts) depth 40 fits 20000, tt)

pub overflow_add-result : goal.overflow_add-result
overflow_add-result c =
    let h : Within 1024 (pos c.args.i) = record { within = c.requires.1 } in
    no_overflow (search (machine, casts) depth 40 fits 20000, tt)

pub returns : goal.returns
returns c =
    let h : Within 1024 (pos c.args.i) = record { within = c.requires.1 } in
    exact w64 (search (machine, casts) depth 40 fits 20000, tt, refl)
