-- `two_segments` is safe: a fresh row is a row, and it stays such as spans are laid.
use native.Mathlib.Omega.{arith}
use Rattle.rows.proofs.Laws.{work_fresh, work_laid}
use Rattle.rows_demo.proofs.two_segments.Goals as goal

pub lay-requires : goal.lay-requires
lay-requires c = work_fresh c.requires (omega arith) c.fresh-row.ensures.fresh c.fresh-row.ensures.zeros

pub lay-requires-2 : goal.lay-requires-2
lay-requires-2 c =
    work_laid
    (work_fresh c.requires (omega arith) c.fresh-row.ensures.fresh c.fresh-row.ensures.zeros)
    c.lay.ensures.laid
    c.lay.ensures.mapped

pub returns : goal.returns
returns c =
    work_laid
    (work_laid
    (work_fresh c.requires (omega arith) c.fresh-row.ensures.fresh c.fresh-row.ensures.zeros)
    c.lay.ensures.laid
    c.lay.ensures.mapped)
    c.lay-2.ensures.laid
    c.lay-2.ensures.mapped
