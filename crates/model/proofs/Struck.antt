-- No question has a struck number, so no answer is one.
use mathlib.Core.Bool.{Bool, true, false, not}
use mathlib.Core.List.{List, [], ◌∷◌}
use Prim.Native.Nat.{ℕ}
use lib.Dec.{T}
use Rattle.model.specs.Lists.{every}
use Rattle.model.specs.Call.{Call}
use Rattle.model.specs.Questions.{Question, answer, scene_questions, call_questions, questions, is_struck, survey_answer}
use Rattle.model.proofs.Tests.{both}

-- what holds of 0 and of each question's number holds of the answer
pub answer_holds :
    {A : Type 0} (test : ℕ → Bool) → T (test 0) → (qs : List (Question A)) (a : A) →
    T (every (λ (q : Question A). test q.number) qs) → T (test (answer qs a))
unfolding answer
answer_holds test zero-holds [] a t = zero-holds
answer_holds {A} test zero-holds (q ∷ qs) a t =
    let h = (both (test q.number) _).0 t in
    go (q.test a) h.0 (answer_holds test zero-holds qs a h.1)
  where
    go : (b : Bool) → T (test q.number) → T (test (answer qs a)) →
        T (test (elim b as (λ (x : Bool). ℕ) [ true ↦ answer qs a | false ↦ q.number ]))
    go true here later = later
    go false here later = here

-- by computing, question by question
pub none_struck : T (every (λ (q : Question Call). not (is_struck q.number)) questions)
unfolding questions scene_questions call_questions
none_struck = tt

pub never_struck : (c : Call) → T (not (is_struck (survey_answer c)))
unfolding survey_answer
never_struck c = answer_holds (λ (n : ℕ). not (is_struck n)) tt questions c none_struck
