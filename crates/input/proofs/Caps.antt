-- Buffers of at most 32,768 numbers, a map of at most 512 words, and a table that is right for an accepted scene, are enough: where question 11 asks for others, a question before it says no.
use mathlib.Core.Path.{◌≡◌, refl, sym, ◌∙◌}
use mathlib.Core.Bool.{Bool, true, false}
use mathlib.Core.List.{List}
use Prim.Native.Nat.{ℕ, zero, suc, ◌*◌, min}
use native.Mathlib.Nat.{mul-le-mul}
use native.Mathlib.Omega.{arith}
use lib.ListN.{length}
use Rattle.model.specs.Vector.{Vec}
use Rattle.model.specs.View.{View}
use Rattle.model.specs.Station.{units, view_at}
use Rattle.model.specs.Format.{decode}
use Rattle.model.specs.Call.{Call}
use Rattle.model.specs.Questions.{scene_answer, station_in_range, view_in_range, call_questions, survey_answer}
use Rattle.model.proofs.Tests.{is_true}
use Rattle.model.proofs.Answers.{scene_first, call_next}
use Rattle.model.proofs.FirstNo.{refused_at}
use Rattle.model.proofs.CallLimits.{view_bounded}
use Rattle.input.specs.Input.{one_tile}
use Rattle.contract.specs.Contract.{lengths_by, gate_call}

module _ (bytes : List ℕ) (eye : Vec) (w h l entries : ℕ) where
  abbrev view : View
  view = view_at (units eye) (one_tile w h l)

  -- the call with a picture, a table, unlit lists and a lit map of these lengths
  abbrev pub lending : ℕ → ℕ → ℕ → ℕ → Call
  lending cells patches rows words = gate_call bytes (units eye) (one_tile w h l) (lengths_by cells entries patches rows words) 0

  -- the answer where a question before 11 says no
  scene_refused : (cells patches rows words : ℕ) {n : ℕ} → scene_answer bytes ≡ suc n → survey_answer (lending cells patches rows words) ≡ suc n
  scene_refused cells patches rows words e = scene_first (lending cells patches rows words) (λ z. omega (arith, z, e)) ∙ e

  view_refused :
      (cells patches rows words : ℕ) →
      scene_answer bytes ≡ 0 →
      view_in_range view ≡ false →
      survey_answer (lending cells patches rows words) ≡ 10
  unfolding call_questions station_in_range
  view_refused cells patches rows words e said =
      call_next (lending cells patches rows words) e ∙ sym (refused_at (lending cells patches rows words) 10 call_questions (refl, said))

  -- the lengths as question 11 asks for them
  abbrev pub asked : Call
  asked = lending (w * h) (length (decode bytes).patches) (h * 256) (h * 4)

  pub capped_answer :
      (n : ℕ) →
      (scene_answer bytes ≡ 0 → n ≡ length (decode bytes).patches) →
      survey_answer (lending (min (w * h) 32768) n (min (h * 256) 32768) (min (h * 4) 512)) ≡ survey_answer asked
  capped_answer n told = go (scene_answer bytes) (view_in_range view) refl refl
    where
      go :
          (k : ℕ) (b : Bool) →
          scene_answer bytes ≡ k →
          view_in_range view ≡ b →
          survey_answer (lending (min (w * h) 32768) n (min (h * 256) 32768) (min (h * 4) 512)) ≡ survey_answer asked
      go (suc k) b e f = scene_refused _ _ _ _ e ∙ sym (scene_refused _ _ _ _ e)
      go zero false e f = view_refused _ _ _ _ e f ∙ sym (view_refused _ _ _ _ e f)
      go zero true e f =
          let v = view_bounded view (is_true f) in
          let cells : min (w * h) 32768 ≡ w * h = omega (arith, mul-le-mul v.narrow v.low) in
          let rows : min (h * 256) 32768 ≡ h * 256 = omega (arith, v.low) in
          let words : min (h * 4) 512 ≡ h * 4 = omega (arith, v.low) in
          λ i. survey_answer (lending (cells i) (told e i) (rows i) (words i))
