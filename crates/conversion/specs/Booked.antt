-- The cells of rows, booked to the patches of a walk.
use Rattle.std.specs.Prelude.{◌≡◌, List, ℕ, ◌<◌, length, get_or}
use Rattle.model.specs.Vector.{Vec}
use Rattle.model.specs.Patch.{Patch}
use Rattle.model.specs.Booking.{first_is, cells_where}

-- each patch's entry has its cells in a picture of so many columns and rows
pub record Booked
    (eye : Vec) (ray : ℕ → ℕ → Vec) (patch : ℕ → Patch) (order : List ℕ) (width : ℕ) (booked : List ℕ) (height : ℕ) : Type 0 where
  pub each :
      (n : ℕ) → n < length booked → get_or booked n 0 ≡ cells_where width height (λ (i k : ℕ). first_is eye (ray i k) patch order n)
