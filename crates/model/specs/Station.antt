-- Where a survey is made from: a station in units or in metres, and the eye that it stands for (document 02, F-7).
use Rattle.std.specs.Prelude.{◌≡◌, Bool, cond, ℕ, ◌+◌, ◌*◌, ◌/◌, ◌%◌, ◌≤◌, ltb, ℤ, pos, neg_ℤ, nat_abs, ◌-ℤ◌, ◌*ℤ◌, Float}
use Rattle.std.proofs.Math.Option.{Option, none, some}
use Rattle.std.specs.Float.{nan, inf, fin}
use Rattle.std.specs.Float.Ieee.{up, down}
use Rattle.model.specs.Vector.{Vec, vec}
use Rattle.model.specs.View.{Camera, View}

-- "A station arrives either as units or as three doubles in metres, and the two forms are one kind of input. Three doubles travel together as one station."
pub data Station : Type 0 where
  units : Vec → Station
  metres : Float → Float → Float → Station

-- n is "the whole number nearest to" the fraction a / b, for b above 0, "halfway to the even one": no more than a half away from it, and even where it is just a half
-- away. That one number alone is so, and that `whole_units` gives it, is proved (`nearest_only`, `units_nearest`) and not part of the rule.
pub record IsNearest (a : ℤ) (b : ℕ) (n : ℤ) : Type 0 where
  pub near : 2 * nat_abs (n *ℤ pos b -ℤ a) ≤ b
  pub halfway : 2 * nat_abs (n *ℤ pos b -ℤ a) ≡ b → nat_abs n % 2 ≡ 0

-- That number, for a fraction that is not below 0: twice what the division leaves is held against the divisor.
unfoldable pub nearest_whole : ℕ → ℕ → ℕ
nearest_whole a b =
    cond (ltb (a % b * 2) b) (a / b) (cond (ltb b (a % b * 2)) (a / b + 1) (a / b + a / b % 2))

-- a size, taken below 0 where the sign is a minus
abbrev pub signed : Bool → ℕ → ℤ
signed minus n = cond minus (neg_ℤ (pos n)) (pos n)

-- "Each becomes the whole number nearest to its exact value times 200, halfway to the even one." Document 01: "One length unit is 5 mm", so a metre has 200. A finite double is m × 2 ^ e, which is m × up e over down e, with its
-- sign; "Both zeros give 0", for a size of 0 is not below 0. One that is not finite has no such number.
unfoldable pub whole_units : Float → Option ℤ
whole_units nan = none
whole_units (inf minus) = none
whole_units (fin minus m e) = some (signed minus (nearest_whole (200 * (m * up e)) (down e)))

-- the number, and 0 where there is none: question 15 says no then, and nothing is seen
abbrev pub or_zero : Option ℤ → ℤ
or_zero none = pos 0
or_zero (some n) = n

-- The eye of a station: "The picture is that of the whole-number station." Document 01: "The station is the eye."
abbrev pub eye_of : Station → Vec
eye_of (units eye) = eye
eye_of (metres x y z) = vec (or_zero (whole_units x)) (or_zero (whole_units y)) (or_zero (whole_units z))

-- the view of a camera at a station
abbrev pub view_at : Station → Camera → View
view_at s c = record { eye = eye_of s; camera = c }
