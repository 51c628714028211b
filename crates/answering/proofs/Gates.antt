-- The call's answer: the scene's, and then the questions on the call, by the general law of the first no.
use mathlib.Core.Path.{◌≡◌, sym, ◌∙◌, ap}
use mathlib.Core.Bool.{Bool, true, false}
use mathlib.Core.List.{List}
use Prim.Native.Nat.{ℕ}
use lib.ListN.{length}
use Rattle.std.specs.Prelude.{None, Some}
use Rattle.model.specs.Vector.{Vec}
use Rattle.model.specs.View.{Camera}
use Rattle.model.specs.Station.{Station, view_at}
use Rattle.model.specs.Lent.{Lengths}
use Rattle.model.specs.Format.{decode}
use Rattle.model.specs.Call.{Call}
use Rattle.model.specs.Questions.{scene_answer, view_in_range, station_in_range, lengths_fit, call_questions, survey_answer}
use Rattle.model.proofs.Answers.{scene_first, call_next}
use Rattle.model.proofs.FirstNo.{RefusedAt, refused_at, AllYes, no_no}
use Rattle.camera.specs.declared.Camera.{Camera as MachineCamera}
use Rattle.camera.specs.Machine.{camera_of, view_of}
use Rattle.geometry.specs.declared.Vector.{Vector}
use Rattle.station.specs.Machine.{LocatedAt}
use Rattle.format.specs.declared.layout.Layout.{Layout}
use Rattle.checked.specs.Checked.{Checked}
use Rattle.refusal.specs.declared.Refusal.{Refusal}
use Rattle.refusal.specs.Refusal.{refusal_number}
use Rattle.refusal.proofs.HandedOn.{never_done}
use Rattle.format.proofs.Decoded.{patch_count}

-- a refusal of the scene is that of the call
pub scene_says_no : (c : Call) (r : Refusal) → refusal_number r ≡ scene_answer c.scene → refusal_number r ≡ survey_answer c
scene_says_no c r scene = scene ∙ sym (scene_first c (λ z. never_done r (scene ∙ z)))

module _ (c : Call) (scene : scene_answer c.scene ≡ 0) where
  pub refused : (n : ℕ) → RefusedAt c n call_questions → n ≡ survey_answer c
  refused n r = refused_at c n call_questions r ∙ sym (call_next c scene)

  pub accepted : AllYes c call_questions → 0 ≡ survey_answer c
  accepted y = no_no c call_questions y ∙ sym (call_next c scene)

-- ---- what a question said, by the code's test of its answer

-- question 15
pub nowhere_said : {s : Station} → LocatedAt s None → station_in_range s ≡ false
nowhere_said located = sym located.ranged

pub somewhere_said : {s : Station} {e : Vector} → LocatedAt s (Some e) → station_in_range s ≡ true
somewhere_said located = sym located.ranged

-- question 10, asked of the eye that the station was found to have
pub view_said :
    (c : MachineCamera) {s : Station} {e : Vector} {r : Bool} →
    LocatedAt s (Some e) →
    r ≡ view_in_range (view_of e c) →
    r ≡ view_in_range (view_at s (camera_of c))
view_said c located e =
    e ∙ ap (λ (v : Vec). view_in_range (record { eye = v; camera = camera_of c })) located.eye_is

-- question 11, asked of the patches that the layout has
pub lengths_said :
    (a : Camera) (k : Lengths) {read bytes : List ℕ} {l : Layout} {r : Bool} →
    Checked read l →
    read ≡ bytes →
    r ≡ lengths_fit a l.patches k →
    r ≡ lengths_fit a (length (decode bytes).patches) k
lengths_said a k checked same e =
    e ∙ ap (λ (n : ℕ). lengths_fit a n k) (sym (patch_count checked.laid) ∙ ap (λ (b : List ℕ). length (decode b).patches) same)

pub ruleset asked = (nowhere_said, somewhere_said, view_said, lengths_said)
