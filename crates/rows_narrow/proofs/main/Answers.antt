-- `main` is safe: a fresh row is a row, and it and its words stay such as spans are laid.
use mathlib.Core.Path.{refl}
use native.Mathlib.Omega.{arith}
use Rattle.rows.proofs.Laws.{work_fresh}
use Rattle.rows_narrow.proofs.main.Goals as goal

pub lay_every_fourth-requires : goal.lay_every_fourth-requires
lay_every_fourth-requires c = work_fresh refl (omega arith) c.fresh-row.ensures.fresh c.fresh-row.ensures.zeros
