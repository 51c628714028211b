-- `fresh` meets its contract, by the laws of the row of all columns and of its words.
use mathlib.Core.Path.{refl}
use Rattle.segments.proofs.Full.{fresh_row}
use Rattle.rows.proofs.Same.{same_fresh}
use Rattle.rows.proofs.RowUnderWork.fresh.Goals as goal

pub returns : goal.returns
returns c = let e = fresh_row c.args.width in record { fresh = e; zeros = refl; same = same_fresh c.args.width e }
