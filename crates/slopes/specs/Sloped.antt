-- Edge functions that have a slope, and the rows that the others leave.
use Rattle.std.specs.Prelude.{◌≡◌, ◌⊎◌, List, ◌+◌, ◌<◌, pos, length, set}
use Rattle.geometry.specs.declared.EdgeFunction.{EdgeFunction}
use Rattle.geometry.specs.Raster.{FunctionBounded}
use Rattle.spans.specs.Span.{Shaped, Clipped}
use Rattle.slopes.specs.declared.Sloped.{Sloped}

-- what keeping one function more asks
pub record OneAsked (f : EdgeFunction) (so_far : Sloped) (kept : List EdgeFunction) : Type 0 where
  pub bounded : FunctionBounded f
  pub shaped : Shaped 1024 so_far.reach
  pub room : so_far.count < length kept

-- a level function leaves rows out, and the table is as it was; one that has a slope comes after those kept before, and the table's other entries and the rows are as they were
abbrev pub KeepsOne : EdgeFunction → Sloped → List EdgeFunction → List EdgeFunction → Sloped → Type 0
KeepsOne f so_far kept kept' r =
    ((f.slope ≡ pos 0) × (kept' ≡ kept) × (r.count ≡ so_far.count) × Clipped f.drop f.start so_far.reach r.reach)
    ⊎ ((f.slope ≡ pos 0 → ⊥) × (kept' ≡ set kept so_far.count f) × (r ≡ record { count = so_far.count + 1; reach = so_far.reach }))
