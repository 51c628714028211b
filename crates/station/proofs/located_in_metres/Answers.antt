-- `located_in_metres` meets its contract: each double tells its own part of the eye, and the first out of range leaves none.
use mir.Syntax.{w64}
use mir.ValLaws.{to_z-of_z}
use borrow.Author.Rules.{rules}
use Rattle.station.proofs.Locating.{first_out, second_out, third_out, at_metres}
use Rattle.station.proofs.located_in_metres.Goals as goal

pub returns-in_err-whole_units : goal.returns-in_err-whole_units
returns-in_err-whole_units c = rw c.from_residual.ensures (first_out c.in_err-whole_units.ensures)

pub returns-in_err-whole_units-2 : goal.returns-in_err-whole_units-2
returns-in_err-whole_units-2 c = rw c.from_residual-in_err-whole_units-2.ensures (second_out c.in_ok-whole_units.ensures c.in_err-whole_units-2.ensures)

pub returns-in_err-whole_units-3 : goal.returns-in_err-whole_units-3
returns-in_err-whole_units-3 c =
    rw c.from_residual-in_err-whole_units-3.ensures (third_out c.in_ok-whole_units.ensures c.in_ok-whole_units-2.ensures c.in_err-whole_units-3.ensures)

pub returns : goal.returns
returns c =
    at_metres c.in_ok-whole_units.ensures c.in_ok-whole_units-2.ensures c.in_ok-whole_units-3.ensures
    (to_z-of_z w64 _ (search rules)) (to_z-of_z w64 _ (search rules)) (to_z-of_z w64 _ (search rules))
