-- The numbers of the refusals, as `model` numbers its questions.
use Rattle.std.specs.Prelude.{ℕ, Result, Ok, Err}
use Rattle.refusal.specs.declared.Refusal.{Refusal}
use Rattle.refusal.specs.declared.Refusal.TheVariants.{Header, Sections, Coordinates, Planes, Children, Runs, Panels, Patches, Division, View, Lengths, Counter, Struck, Axes, Station}

abbrev pub refusal_number : Refusal → ℕ
refusal_number Header = 1
refusal_number Sections = 2
refusal_number Coordinates = 3
refusal_number Planes = 4
refusal_number Children = 5
refusal_number Runs = 6
refusal_number Panels = 7
refusal_number Patches = 8
refusal_number Division = 9
refusal_number View = 10
refusal_number Lengths = 11
refusal_number Counter = 12
refusal_number Struck = 13
refusal_number Axes = 14
refusal_number Station = 15

-- "The result is "done" or this number"
abbrev pub answer_of : {T : Type 0} → Result T Refusal → ℕ
answer_of (Ok t) = 0
answer_of (Err r) = refusal_number r
