-- What the questions before question 8 tell of a scene, and a patch of some corners of its table.
use Rattle.std.specs.Prelude.{List, map, ℕ, T}
use Rattle.model.specs.Lists.{range}
use Rattle.model.specs.Patch.{Patch}
use Rattle.model.specs.Format.{decode}
use Rattle.model.specs.Questions.{coordinates_in_range}
use Rattle.format.specs.declared.layout.Layout.{Layout}
use Rattle.format.specs.Layout.{LaidOut, RunsInside, corner_number}

-- a scene whose answers to questions 1, 2, 3 and 6 are yes, with its layout
pub record Cornered (bytes : List ℕ) (l : Layout) : Type 0 where
  pub laid : LaidOut bytes l
  pub inside : RunsInside bytes l
  pub coordinates : T (coordinates_in_range (decode bytes))

-- a patch of some corners of the table, from a place on; its panel has no part in question 8
abbrev pub corners_from : List ℕ → Layout → ℕ → ℕ → Patch
corners_from bytes l first count = record { panel = 0; corners = map (corner_number bytes l) (range first count) }
