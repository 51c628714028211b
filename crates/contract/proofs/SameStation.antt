-- An answer and a survey of the same station and camera, and of the whole-number station.
use mathlib.Core.Path.{◌≡◌, refl, ◌∙◌, subst₂}
use mathlib.Core.Logic.{◌≢◌}
use mathlib.Core.List.{List}
use Prim.Native.Nat.{ℕ}
use Rattle.model.specs.View.{Camera}
use Rattle.model.specs.Station.{Station, units, eye_of}
use Rattle.model.specs.Lent.{Lent, Lengths}
use Rattle.model.specs.Questions.{survey_answer}
use Rattle.model.specs.Survey.{call_picture, call_counts, call_patch_cells, call_unlit, call_lit, call_counter}
use Rattle.model.proofs.WholeStation.{answer_in_units}
use Rattle.contract.specs.Contract.{gate_call, call_on, results, left_by, Surveyed}

pub answered_from :
    (bytes : List ℕ) (l : Lengths) (k : ℕ) {s s' : Station} {c c' : Camera} {n : ℕ} →
    s ≡ s' →
    c ≡ c' →
    n ≡ survey_answer (gate_call bytes s c l k) →
    n ≡ survey_answer (gate_call bytes s' c' l k)
answered_from bytes l k e f h = h ∙ (λ i. survey_answer (gate_call bytes (e i) (f i) l k))

pub surveyed_from :
    {bytes : List ℕ} {s s' : Station} {c c' : Camera} {before after : Lent} {result : ℕ} →
    s ≡ s' →
    c ≡ c' →
    Surveyed bytes s c before after result →
    Surveyed bytes s' c' before after result
surveyed_from {bytes} {before = before} {after = after} {result = result} e f h =
    subst₂ (λ (x : Station) (y : Camera). Surveyed bytes x y before after result) e f h

-- What an accepted call leaves goes by the eye of its station.
pub results_by_eye :
    (bytes : List ℕ) (s s' : Station) (c : Camera) (lent : Lent) →
    eye_of s ≡ eye_of s' →
    results (call_on bytes s c lent) ≡ results (call_on bytes s' c lent)
unfolding call_picture call_counts call_patch_cells call_unlit call_lit call_counter
results_by_eye bytes s s' c lent e = λ i. results (call_on bytes (units (e i)) c lent)

-- "The picture is that of the whole-number station", and so is all else: a call that is not answered by 15 is, in its result and in everything lent, a survey from the whole-number
-- station.
pub metres_as_units :
    {bytes : List ℕ} {s : Station} {c : Camera} {before after : Lent} {result : ℕ} →
    result ≢ 15 →
    Surveyed bytes s c before after result →
    Surveyed bytes (units (eye_of s)) c before after result
metres_as_units {bytes} {s} {c} {before} f h =
    let same = answer_in_units (call_on bytes s c before) (λ z. f (h.answered ∙ z)) in
    let eye = results_by_eye bytes s (units (eye_of s)) c before refl in
    record { answered = h.answered ∙ same; left = h.left ∙ (λ i. left_by (same i) (eye i) before) }
