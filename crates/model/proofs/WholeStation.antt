-- A station in metres counts as its whole-number station, in every answer but 15 (document 02, F-7).
use mathlib.Core.Path.{◌≡◌, refl, sym, ◌∙◌, subst}
use mathlib.Core.Logic.{◌↔◌, ◌≢◌}
use mathlib.Core.Bool.{Bool, true, false, not}
use Prim.Native.Nat.{ℕ, zero, suc}
use native.Mathlib.Omega.{arith}
use lib.Dec.{T, eqb}
use Rattle.model.specs.Station.{units, eye_of}
use Rattle.model.specs.Call.{Call}
use Rattle.model.specs.Questions.{answer, scene_questions, scene_answer, station_in_range, call_questions, questions, survey_answer}
use Rattle.model.proofs.Tests.{both, is_true}
use Rattle.model.proofs.Answers.{scene_first, call_next}
use Rattle.model.proofs.FirstNo.{refused_at, without, without_same}
use Rattle.model.proofs.Struck.{answer_holds}

-- the call with the whole-number station in place of its own
abbrev pub in_units : Call → Call
in_units c =
    record {
      scene = c.scene;
      station = units (eye_of c.station);
      camera = c.camera;
      lengths = c.lengths;
      counter = c.counter;
    }

-- Where question 15 says yes, as of every station in units, the answer is that of the questions without it.
answer_without_15 : (c : Call) → T (station_in_range c.station) → survey_answer c ≡ answer (without 15 questions) c
unfolding survey_answer questions scene_questions call_questions
answer_without_15 c t = sym (without_same c 15 questions ((both (station_in_range c.station) true).1 (t, tt)))

-- the other questions ask of the station only what eye it has
others_same : (c : Call) → answer (without 15 questions) c ≡ answer (without 15 questions) (in_units c)
unfolding questions scene_questions call_questions answer
others_same c = refl

units_in_range : (c : Call) → T (station_in_range (in_units c).station)
unfolding station_in_range
units_in_range c = tt

-- no other question has the number
scene_never_15 : (c : Call) → scene_answer c.scene ≢ 15
unfolding scene_answer scene_questions
scene_never_15 c e =
    subst (λ (n : ℕ). T (not (eqb n 15))) e (answer_holds (λ (n : ℕ). not (eqb n 15)) tt scene_questions c.scene tt)

others_never_15 : (c : Call) → answer (without 15 questions) c ≢ 15
unfolding questions scene_questions call_questions
others_never_15 c e =
    subst (λ (n : ℕ). T (not (eqb n 15))) e (answer_holds (λ (n : ℕ). not (eqb n 15)) tt (without 15 questions) c tt)

station_refused : (c : Call) → scene_answer c.scene ≡ 0 → station_in_range c.station ≡ false → survey_answer c ≡ 15
unfolding call_questions
station_refused c e said = call_next c e ∙ sym (refused_at c 15 call_questions said)

-- The answer is 15 exactly where the scene keeps its rules and the station's doubles do not keep theirs.
pub answered_15 : (c : Call) → (survey_answer c ≡ 15) ↔ ((scene_answer c.scene ≡ 0) × (station_in_range c.station ≡ false))
answered_15 c = (λ e. go (scene_answer c.scene) (station_in_range c.station) refl refl e, λ h. station_refused c h.0 h.1)
  where
    go :
        (n : ℕ) (b : Bool) → scene_answer c.scene ≡ n → station_in_range c.station ≡ b → survey_answer c ≡ 15 →
        (scene_answer c.scene ≡ 0) × (station_in_range c.station ≡ false)
    go (suc n) b s t e = absurd (scene_never_15 c (sym (scene_first c (λ z. omega (arith, z, s))) ∙ e))
    go zero true s t e = absurd (others_never_15 c (sym (answer_without_15 c (is_true t)) ∙ e))
    go zero false s t e = (s, t)

-- Any other answer is that of the whole-number station.
pub answer_in_units : (c : Call) → survey_answer c ≢ 15 → survey_answer c ≡ survey_answer (in_units c)
answer_in_units c f = go (scene_answer c.scene) (station_in_range c.station) refl refl
  where
    go :
        (n : ℕ) (b : Bool) → scene_answer c.scene ≡ n → station_in_range c.station ≡ b →
        survey_answer c ≡ survey_answer (in_units c)
    go (suc n) b s t =
        let refused : scene_answer c.scene ≢ 0 = λ z. omega (arith, z, s) in
        scene_first c refused ∙ sym (scene_first (in_units c) refused)
    go zero true s t =
        answer_without_15 c (is_true t) ∙ others_same c ∙ sym (answer_without_15 (in_units c) (units_in_range c))
    go zero false s t = absurd (f (station_refused c s t))
