-- `answering::admit` meets its contract: each question is asked after those before it said yes.
use mathlib.Core.Path.{sym, ◌∙◌}
use Rattle.std.specs.Prelude.{None, Some}
use Rattle.model.specs.Questions.{call_questions}
use Rattle.model.proofs.FirstNo.{said}
use Rattle.station.specs.Machine.{station_of, LocatedAt}
use Rattle.refusal.proofs.HandedOn.{handed_on}
use Rattle.answering.proofs.Gates.{scene_says_no, refused, accepted, asked}
use Rattle.answering.proofs.admit.Goals as goal

pub returns-in_err-scene-clause-answered : goal.returns-in_err-scene-clause-answered
returns-in_err-scene-clause-answered c =
    handed_on _ _ c.from_residual.ensures.1 ∙ scene_says_no _ _ c.in_err-scene.ensures.answered

pub returns-in_default-clause-answered : goal.returns-in_default-clause-answered
unfolding call_questions
returns-in_default-clause-answered c =
    let nowhere : LocatedAt (station_of c.args.station) None = c.in_default.ensures in
    refused _ (sym c.in_ok-scene.ensures.answered) 15 (search (said, asked) depth 40 fits 20000)

pub returns-then-not-view_in_range-clause-answered : goal.returns-then-not-view_in_range-clause-answered
unfolding call_questions
returns-then-not-view_in_range-clause-answered c =
    let here : LocatedAt (station_of c.args.station) (Some c.in-Some.eye) = c.in-Some.ensures in
    let same = c.in_ok-scene.ensures.same in
    refused _ (sym c.in_ok-scene.ensures.answered) 10 (search (said, asked) depth 40 fits 20000)

pub returns-then-not-axes_proper-clause-answered : goal.returns-then-not-axes_proper-clause-answered
unfolding call_questions
returns-then-not-axes_proper-clause-answered c =
    let here : LocatedAt (station_of c.args.station) (Some c.in-Some.eye) = c.in-Some.ensures in
    let same = c.in_ok-scene.ensures.same in
    refused _ (sym c.in_ok-scene.ensures.answered) 14 (search (said, asked) depth 40 fits 20000)

pub returns-then-not-lengths_fit-clause-answered : goal.returns-then-not-lengths_fit-clause-answered
unfolding call_questions
returns-then-not-lengths_fit-clause-answered c =
    let here : LocatedAt (station_of c.args.station) (Some c.in-Some.eye) = c.in-Some.ensures in
    let same = c.in_ok-scene.ensures.same in
    refused _ (sym c.in_ok-scene.ensures.answered) 11 (search (said, asked) depth 40 fits 20000)

pub returns-then-not-counter_below_end-clause-answered : goal.returns-then-not-counter_below_end-clause-answered
unfolding call_questions
returns-then-not-counter_below_end-clause-answered c =
    let here : LocatedAt (station_of c.args.station) (Some c.in-Some.eye) = c.in-Some.ensures in
    let same = c.in_ok-scene.ensures.same in
    refused _ (sym c.in_ok-scene.ensures.answered) 12 (search (said, asked) depth 40 fits 20000)

pub returns-clause-answered : goal.returns-clause-answered
unfolding call_questions
returns-clause-answered c =
    let here : LocatedAt (station_of c.args.station) (Some c.in-Some.eye) = c.in-Some.ensures in
    let same = c.in_ok-scene.ensures.same in
    accepted _ (sym c.in_ok-scene.ensures.answered) (search (said, asked) depth 40 fits 20000)
