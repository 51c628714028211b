-- A scene that passed the questions on scenes, for the contracts of what works on such a scene. It is less than document 01's "accepted": "a scene is accepted when this call ends in
-- "done"", and for that the call is asked questions 15, 10, 14, 11 and 12 as well (`questions` in Questions).
use Rattle.std.specs.Prelude.{List, ℕ, T}
use Rattle.model.specs.Format.{decode}
use Rattle.model.specs.Questions.{has_header, has_sections, coordinates_in_range, planes_proper, children_proper, runs_proper, panels_proper, patches_proper, planes_divide}

-- what questions 1 to 9 say of a scene, and no more
pub record AcceptedScene (bytes : List ℕ) : Type 0 where
  pub header : T (has_header bytes)
  pub sections : T (has_sections bytes)
  pub coordinates : T (coordinates_in_range (decode bytes))
  pub planes : T (planes_proper (decode bytes))
  pub children : T (children_proper (decode bytes))
  pub runs : T (runs_proper (decode bytes))
  pub panels : T (panels_proper (decode bytes))
  pub patches : T (patches_proper (decode bytes))
  pub divided : T (planes_divide (decode bytes))
