-- What an answer says of the questions' tests.
use mathlib.Core.Path.{◌≡◌, refl, sym, ◌∙◌}
use mathlib.Core.Logic.{◌↔◌, ◌≢◌}
use mathlib.Core.Bool.{Bool, true, false}
use mathlib.Core.List.{List, [], ◌∷◌, ◌++◌, map}
use Prim.Native.Nat.{ℕ, zero, suc}
use native.Mathlib.Omega.{arith}
use lib.Dec.{T}
use lib.ListN.{length}
use Rattle.model.specs.Format.{decode}
use Rattle.model.specs.Call.{Call, call_view}
use Rattle.model.specs.Accepted.{AcceptedScene}
use Rattle.model.specs.Questions.{Question, answer, scene_questions, scene_answer, station_in_range, view_in_range, axes_proper, lengths_fit, counter_below_end, call_questions, on_scene, questions, survey_answer}

abbrev pass_on : Bool → ℕ → ℕ → ℕ
pass_on b next number = elim b as (λ (x : Bool). ℕ) [ true ↦ next | false ↦ number ]

-- a question that says yes hands on to the next, and one that says no is answered by its number
pub answer_yes :
    {A : Type 0} (q : Question A) (qs : List (Question A)) (a : A) →
    T (q.test a) →
    answer (q ∷ qs) a ≡ answer qs a
unfolding answer
answer_yes q qs a t = go (q.test a) t
  where
    go : (b : Bool) → T b → pass_on b (answer qs a) q.number ≡ answer qs a
    go true t = refl
    go false t = absurd t

pub answer_no :
    {A : Type 0} (q : Question A) (qs : List (Question A)) (a : A) →
    (T (q.test a) → ⊥) →
    answer (q ∷ qs) a ≡ q.number
unfolding answer
answer_no q qs a f = go (q.test a) f
  where
    go : (b : Bool) → (T b → ⊥) → pass_on b (answer qs a) q.number ≡ q.number
    go true f = absurd (f tt)
    go false f = refl

-- where the answer is 0 the first question said yes, and so did the others
pub all_yes :
    {A : Type 0} (q : Question A) (qs : List (Question A)) (a : A) →
    q.number ≢ 0 →
    answer (q ∷ qs) a ≡ 0 →
    T (q.test a) × (answer qs a ≡ 0)
unfolding answer
all_yes q qs a f e = go (q.test a) e
  where
    go : (b : Bool) → pass_on b (answer qs a) q.number ≡ 0 → T b × (answer qs a ≡ 0)
    go true e = (tt, e)
    go false e = absurd (f e)

not_0 : {n : ℕ} → suc n ≢ 0
not_0 e = omega arith

pub answer_done : {A : Type 0} (a : A) → answer [] a ≡ 0
unfolding answer
answer_done a = refl

pub accepted_scene : (bytes : List ℕ) → scene_answer bytes ≡ 0 ↔ AcceptedScene bytes
unfolding scene_answer scene_questions
accepted_scene bytes = (said, asked)
  where
    said : scene_answer bytes ≡ 0 → AcceptedScene bytes
    said e =
        let a = all_yes _ _ bytes not_0 e in
        let b = all_yes _ _ bytes not_0 a.1 in
        let c = all_yes _ _ bytes not_0 b.1 in
        let d = all_yes _ _ bytes not_0 c.1 in
        let f = all_yes _ _ bytes not_0 d.1 in
        let g = all_yes _ _ bytes not_0 f.1 in
        let h = all_yes _ _ bytes not_0 g.1 in
        let i = all_yes _ _ bytes not_0 h.1 in
        let j = all_yes _ _ bytes not_0 i.1 in
        record {
          header = a.0;
          sections = b.0;
          coordinates = c.0;
          planes = d.0;
          children = f.0;
          runs = g.0;
          panels = h.0;
          patches = i.0;
          divided = j.0;
        }

    asked : AcceptedScene bytes → scene_answer bytes ≡ 0
    asked h =
        answer_yes _ _ bytes h.header
        ∙ answer_yes _ _ bytes h.sections
        ∙ answer_yes _ _ bytes h.coordinates
        ∙ answer_yes _ _ bytes h.planes
        ∙ answer_yes _ _ bytes h.children
        ∙ answer_yes _ _ bytes h.runs
        ∙ answer_yes _ _ bytes h.panels
        ∙ answer_yes _ _ bytes h.patches
        ∙ answer_yes _ _ bytes h.divided
        ∙ answer_done bytes

-- no question has the number 0
abbrev Numbered : List (Question (List ℕ)) → Type 0
Numbered [] = Unit {0}
Numbered (q ∷ qs) = (q.number ≢ 0) × Numbered qs

-- the questions on a scene, put to a call before others: their answer, or that of the others where it is 0
answer_on_scene :
    (qs : List (Question (List ℕ))) (rest : List (Question Call)) (c : Call) →
    Numbered qs →
    answer qs c.scene ≡ 0 →
    answer (map on_scene qs ++ rest) c ≡ answer rest c
unfolding answer
answer_on_scene [] rest c ns e = refl
answer_on_scene (q ∷ qs) rest c ns e = go (q.test c.scene) e (answer_on_scene qs rest c ns.1)
  where
    go : (b : Bool) → pass_on b (answer qs c.scene) q.number ≡ 0
        → (answer qs c.scene ≡ 0 → answer (map on_scene qs ++ rest) c ≡ answer rest c)
        → pass_on b (answer (map on_scene qs ++ rest) c) q.number ≡ answer rest c
    go true e f = f e
    go false e f = absurd (ns.0 e)

refused_on_scene :
    (qs : List (Question (List ℕ))) (rest : List (Question Call)) (c : Call) →
    answer qs c.scene ≢ 0 →
    answer (map on_scene qs ++ rest) c ≡ answer qs c.scene
unfolding answer
refused_on_scene [] rest c f = absurd (f refl)
refused_on_scene (q ∷ qs) rest c f = go (q.test c.scene) f (refused_on_scene qs rest c)
  where
    go : (b : Bool) → (pass_on b (answer qs c.scene) q.number ≡ 0 → ⊥)
        → ((answer qs c.scene ≡ 0 → ⊥) → answer (map on_scene qs ++ rest) c ≡ answer qs c.scene)
        → pass_on b (answer (map on_scene qs ++ rest) c) q.number ≡ pass_on b (answer qs c.scene) q.number
    go true f g = g f
    go false f g = refl

scene_numbers : Numbered scene_questions
unfolding scene_questions
scene_numbers = (
  not_0,
  (not_0, (not_0, (not_0, (not_0, (not_0, (not_0, (not_0, (not_0, tt)))))))),
)

-- A call's answer: the scene's, and where that is 0 the answer of the questions on the call.
pub scene_first : (c : Call) → scene_answer c.scene ≢ 0 → survey_answer c ≡ scene_answer c.scene
unfolding survey_answer questions scene_answer
scene_first c f = refused_on_scene scene_questions call_questions c f

pub call_next : (c : Call) → scene_answer c.scene ≡ 0 → survey_answer c ≡ answer call_questions c
unfolding survey_answer questions scene_answer
call_next c e = answer_on_scene scene_questions call_questions c scene_numbers e

-- what the questions on the call say of one that is accepted
pub record AcceptedCall (c : Call) : Type 0 where
  pub scene : AcceptedScene c.scene
  pub station : T (station_in_range c.station)
  pub view : T (view_in_range (call_view c))
  pub axes : T (axes_proper c.camera.axes)
  pub lengths : T (lengths_fit c.camera (length (decode c.scene).patches) c.lengths)
  pub counter : T (counter_below_end c.counter)

pub accepted_call : (c : Call) → survey_answer c ≡ 0 ↔ AcceptedCall c
unfolding call_questions
accepted_call c = (said, asked)
  where
    scene_zero : survey_answer c ≡ 0 → scene_answer c.scene ≡ 0
    scene_zero e = go (scene_answer c.scene) refl
      where
        go : (n : ℕ) → scene_answer c.scene ≡ n → scene_answer c.scene ≡ 0
        go zero h = h
        go (suc n) h = sym (scene_first c (λ z. not_0 (sym h ∙ z))) ∙ e

    said : survey_answer c ≡ 0 → AcceptedCall c
    said e =
        let s = scene_zero e in
        let a = all_yes _ _ c not_0 (sym (call_next c s) ∙ e) in
        let b = all_yes _ _ c not_0 a.1 in
        let d = all_yes _ _ c not_0 b.1 in
        let f = all_yes _ _ c not_0 d.1 in
        let g = all_yes _ _ c not_0 f.1 in
        record {
          scene = (accepted_scene c.scene).0 s;
          station = a.0;
          view = b.0;
          axes = d.0;
          lengths = f.0;
          counter = g.0;
        }

    asked : AcceptedCall c → survey_answer c ≡ 0
    asked h =
        call_next c ((accepted_scene c.scene).1 h.scene)
        ∙ answer_yes _ _ c h.station
        ∙ answer_yes _ _ c h.view
        ∙ answer_yes _ _ c h.axes
        ∙ answer_yes _ _ c h.lengths
        ∙ answer_yes _ _ c h.counter
        ∙ answer_done c
