-- Numbers read from bytes.
use Rattle.std.specs.Prelude.{◌≡◌, ℕ, ◌<◌}

-- what a reader answers: the machine's number r is n, below a limit
pub record NaturalIs (limit n r : ℕ) : Type 0 where
  pub value : r ≡ n
  pub below : r < limit
