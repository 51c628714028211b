-- The whole numbers of three doubles are a station's eye, and all three are to be in range.
use mathlib.Core.Path.{◌≡◌, ◌∙◌}
use mathlib.Core.Bool.{true, ◌&&◌}
use lib.IntN.{ℤ}
use lib.Ieee.{Float}
use Rattle.std.specs.Prelude.{None, Some}
use Rattle.model.specs.Vector.{Vec, vec}
use Rattle.model.specs.Station.{units, metres, whole_units}
use Rattle.model.specs.Questions.{whole_in_range, station_in_range}
use Rattle.geometry.specs.declared.Vector.{Vector}
use Rattle.geometry.specs.Machine.{vec_of}
use Rattle.station.specs.Machine.{WholeIs, LocatedAt}

pub at_units : {eye : Vec} {e : Vector} → vec_of e ≡ eye → LocatedAt (units eye) (Some e)
unfolding station_in_range
at_units h = record { ranged = λ i. true; eye_is = h }

-- a double out of range leaves the station without an eye
module _ {x y z : Float} where
  pub first_out : WholeIs (whole_units x) None → LocatedAt (metres x y z) None
  unfolding station_in_range
  first_out h = record { ranged = λ i. h.ranged i && whole_in_range (whole_units y) && whole_in_range (whole_units z); eye_is = tt }

  pub second_out : {a : ℤ} → WholeIs (whole_units x) (Some a) → WholeIs (whole_units y) None → LocatedAt (metres x y z) None
  unfolding station_in_range
  second_out h k = record { ranged = λ i. h.ranged i && k.ranged i && whole_in_range (whole_units z); eye_is = tt }

  pub third_out : {a b : ℤ} → WholeIs (whole_units x) (Some a) → WholeIs (whole_units y) (Some b) → WholeIs (whole_units z) None → LocatedAt (metres x y z) None
  unfolding station_in_range
  third_out h k l = record { ranged = λ i. h.ranged i && k.ranged i && l.ranged i; eye_is = tt }

  -- the doubles' whole numbers, and the numbers p, q and r that were stored for them
  pub at_metres :
      {a b c p q r : ℤ} →
      WholeIs (whole_units x) (Some a) → WholeIs (whole_units y) (Some b) → WholeIs (whole_units z) (Some c) →
      p ≡ a → q ≡ b → r ≡ c →
      LocatedAt (metres x y z) (Some (record { x = p; y = q; z = r }))
  unfolding station_in_range
  at_metres h k l e f g =
      record {
        ranged = λ i. h.ranged i && k.ranged i && l.ranged i;
        eye_is = λ i. vec ((e ∙ h.number_is) i) ((f ∙ k.number_is) i) ((g ∙ l.number_is) i);
      }
