-- `locate` meets its contract: a station in units is its own eye, and one in metres goes by its doubles.
use mathlib.Core.Path.{sym, subst}
use borrow.Author.Rules.{rules}
use Rattle.std.specs.Prelude.{Some}
use Rattle.station.specs.declared.Station.{Station}
use Rattle.station.specs.Machine.{station_of, LocatedAt}
use Rattle.station.proofs.Locating.{at_units}
use Rattle.format.proofs.Words.{handed}
use Rattle.station.proofs.locate.Goals as goal

pub returns-in-Units : goal.returns-in-Units
returns-in-Units c =
    subst (λ (s : Station). LocatedAt (station_of s) (Some c.vector.result)) (sym c.in-Units.is)
    (at_units (handed (search rules) (search rules) (search rules) c.vector.ensures))
