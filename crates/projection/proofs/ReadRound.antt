-- A place of the corners, read round.
use mathlib.Core.Path.{◌≡◌, refl}
use mathlib.Core.Bool.{Bool, true, false, cond}
use Prim.Native.Nat.{ℕ, ◌+◌, ◌-◌, ◌≤◌, ◌<◌}
use native.Mathlib.Omega.{arith}
use lib.Dec.{ltb}
use borrow.Author.Tests.{ltb-true, ltb-false, lt-ltb, le-ltb}
use Rattle.projection.specs.Projected.{wrap}

-- a place before the end stays, and one past it begins again
pub wrap_low : {n i : ℕ} → i < n → i ≡ wrap n i
wrap_low {n} {i} h = rw (lt-ltb i n h)

pub wrap_high : {n i : ℕ} → n ≤ i → i - n ≡ wrap n i
wrap_high {n} {i} h = rw (le-ltb i n h)

pub wrap_below : {n i : ℕ} → i < n + n → wrap n i < n
wrap_below {n} {i} h = go (ltb i n) refl
  where
    go : (t : Bool) → ltb i n ≡ t → cond t i (i - n) < n
    go true e = ltb-true i n e
    go false e = omega (arith, ltb-false i n e)
