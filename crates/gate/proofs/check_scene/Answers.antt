-- `gate::check_scene` meets its contract: each question is asked after those before it said yes.
use mathlib.Core.Path.{◌≡◌, ap, ◌∙◌}
use mathlib.Core.Bool.{Bool, true, false, not}
use mathlib.Core.List.{List}
use Prim.Native.Nat.{ℕ}
use Rattle.model.specs.Questions.{has_header, has_sections, scene_questions, scene_answer}
use Rattle.model.proofs.FirstNo.{said_yes, said, RefusedAt, refused_at, AllYes, no_no}
use Rattle.format.proofs.Sections.{header_inside}
use Rattle.scene.proofs.RunTables.{runs_inside}
use Rattle.gate.proofs.Passed.{cornered, checked}
use Rattle.gate.proofs.check_scene.Goals as goal

refused : (bytes : List ℕ) (n : ℕ) → RefusedAt bytes n scene_questions → n ≡ scene_answer bytes
unfolding scene_answer
refused bytes n r = refused_at bytes n scene_questions r

accepted : (bytes : List ℕ) → AllYes bytes scene_questions → 0 ≡ scene_answer bytes
unfolding scene_answer
accepted bytes y = no_no bytes scene_questions y

-- what is read has the same bytes
header_told : {a : Bool} {read bytes : List ℕ} → read ≡ bytes → a ≡ has_header bytes → not a ≡ false → has_header read ≡ true
header_told e h n = ap has_header e ∙ said_yes h n

sections_told : {a : Bool} {read bytes : List ℕ} → read ≡ bytes → a ≡ has_sections bytes → not a ≡ false → has_sections read ≡ true
sections_told e h n = ap has_sections e ∙ said_yes h n

ruleset told = (said, header_told, sections_told)

-- ---- what the questions before tell

pub has_sections-requires : goal.has_sections-requires
has_sections-requires c = search (said, header_inside)

pub panels_proper-requires : goal.panels_proper-requires
panels_proper-requires c = runs_inside c.read-scene.result.laid_out (search said)

pub patches_proper-requires : goal.patches_proper-requires
patches_proper-requires c = cornered c.read-scene.result.laid_out (search said) (search said)

pub invariant_of-checked : goal.invariant_of-checked
invariant_of-checked c =
    record { checked = checked c.read-scene.result.laid_out (search said) (search said) (search said) }

-- each answer is one line: the question's number, and that those before it said yes

pub returns-then-not-has_header-clause-answered : goal.returns-then-not-has_header-clause-answered
unfolding scene_questions
returns-then-not-has_header-clause-answered c = refused _ 1 (search said depth 40 fits 20000)

pub returns-then-not-has_sections-clause-answered : goal.returns-then-not-has_sections-clause-answered
unfolding scene_questions
returns-then-not-has_sections-clause-answered c = refused _ 2 (search said depth 40 fits 20000)

pub returns-then-not-coordinates_in_range-clause-answered : goal.returns-then-not-coordinates_in_range-clause-answered
unfolding scene_questions
returns-then-not-coordinates_in_range-clause-answered c = refused _ 3 (search told depth 40 fits 20000) ∙ ap scene_answer c.read-scene.ensures

pub returns-then-not-planes_proper-clause-answered : goal.returns-then-not-planes_proper-clause-answered
unfolding scene_questions
returns-then-not-planes_proper-clause-answered c = refused _ 4 (search told depth 40 fits 20000) ∙ ap scene_answer c.read-scene.ensures

pub returns-then-not-children_proper-clause-answered : goal.returns-then-not-children_proper-clause-answered
unfolding scene_questions
returns-then-not-children_proper-clause-answered c = refused _ 5 (search told depth 40 fits 20000) ∙ ap scene_answer c.read-scene.ensures

pub returns-then-not-runs_proper-clause-answered : goal.returns-then-not-runs_proper-clause-answered
unfolding scene_questions
returns-then-not-runs_proper-clause-answered c = refused _ 6 (search told depth 40 fits 20000) ∙ ap scene_answer c.read-scene.ensures

pub returns-then-not-panels_proper-clause-answered : goal.returns-then-not-panels_proper-clause-answered
unfolding scene_questions
returns-then-not-panels_proper-clause-answered c = refused _ 7 (search told depth 40 fits 20000) ∙ ap scene_answer c.read-scene.ensures

pub returns-then-not-patches_proper-clause-answered : goal.returns-then-not-patches_proper-clause-answered
unfolding scene_questions
returns-then-not-patches_proper-clause-answered c = refused _ 8 (search told depth 40 fits 20000) ∙ ap scene_answer c.read-scene.ensures

pub returns-then-not-planes_divide-clause-answered : goal.returns-then-not-planes_divide-clause-answered
unfolding scene_questions
returns-then-not-planes_divide-clause-answered c = refused _ 9 (search told depth 40 fits 20000) ∙ ap scene_answer c.read-scene.ensures

pub returns-clause-answered : goal.returns-clause-answered
unfolding scene_questions
returns-clause-answered c = accepted _ (search told depth 40 fits 20000) ∙ ap scene_answer c.read-scene.ensures
