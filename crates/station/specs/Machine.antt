-- A machine station as the model's, and what is told of one.
use Rattle.std.specs.Prelude.{◌≡◌, ℤ, Option, is_some, IfSome}
use Rattle.std.proofs.Math.Option.{Option as ModelOption}
use Rattle.model.specs.Vector.{vec}
use Rattle.model.specs.Station.{units, metres, or_zero, eye_of, Station as ModelStation}
use Rattle.model.specs.Questions.{whole_in_range, station_in_range}
use Rattle.geometry.specs.declared.Vector.{Vector}
use Rattle.geometry.specs.Machine.{vec_of}
use Rattle.station.specs.declared.Station.{Station}
use Rattle.station.specs.declared.Station.TheVariants.{Units, Metres}

abbrev pub station_of : Station → ModelStation
station_of (Units x y z) = units (vec x y z)
station_of (Metres m) = metres m.x m.y m.z

-- a whole number where there is one in range, and none elsewhere
pub record WholeIs (n : ModelOption ℤ) (r : Option ℤ) : Type 0 where
  pub ranged : is_some r ≡ whole_in_range n
  pub number_is : IfSome r (λ number. number ≡ or_zero n)

-- what question 15 says of a station, and its eye where it says yes
pub record LocatedAt (s : ModelStation) (r : Option Vector) : Type 0 where
  pub ranged : is_some r ≡ station_in_range s
  pub eye_is : IfSome r (λ eye. vec_of eye ≡ eye_of s)
