-- `input::survey_input` meets its contract: the buffers that it lends are as long as it says, and the survey call's contract gives the rest.
use mathlib.Core.Path.{sym, ◌∙◌, ap}
use Prim.Native.Nat.{ℕ, min}
use native.Mathlib.Omega.{arith}
use lib.ListN.{length-replicate}
use lib.Seq.{length-take-le}
use Rattle.model.specs.Vector.{vec}
use Rattle.input.proofs.Inputs.{rest, coordinate, surveyed_input}
use Rattle.input.proofs.survey_input.Goals as goal

pub returns : goal.returns
returns c =
    let surveyed = surveyed_input c.args.input.now c.ring_survey.ensures.surveyed
    (rest 12 c.args.input.now)
    (λ i.
    vec (coordinate c.i16_at.type_inv c.i16_at.ensures i)
    (coordinate c.i16_at-2.type_inv c.i16_at-2.ensures i)
    (coordinate c.i16_at-3.type_inv c.i16_at-3.ensures i))
    c.word-width.ensures
    c.word-height.ensures
    c.word-lens.ensures
    (length-take-le _ _ (omega (arith, length-replicate {A = ℕ} 32768 0, c.min-cells.ensures)) ∙ c.min-cells.ensures ∙ ap (λ (n : ℕ). min n 32768) c.area.ensures)
    (λ accepted. length-take-le _ _ (omega (arith, length-replicate {A = ℕ} 1024 0, c.patches_told-patches.ensures.upper_bound)) ∙ c.patches_told-patches.ensures.value accepted)
    (length-take-le _ _ (omega (arith, length-replicate {A = ℕ} 32768 0, c.min-rows.ensures)) ∙ c.min-rows.ensures ∙ ap (λ (n : ℕ). min n 32768) c.area-2.ensures)
    (length-take-le _ _ (omega (arith, length-replicate {A = ℕ} 512 0, c.min-words.ensures)) ∙ c.min-words.ensures ∙ ap (λ (n : ℕ). min n 512) c.area-3.ensures) in
    record { value = surveyed.0; counts_after = surveyed.1 }

pub slice_bounds-ring_survey-end-2 : goal.slice_bounds-ring_survey-end-2
slice_bounds-ring_survey-end-2 c = sym (length-take-le _ _ (omega arith))

pub slice_bounds-ring_survey-end-3 : goal.slice_bounds-ring_survey-end-3
slice_bounds-ring_survey-end-3 c = sym (length-take-le _ _ (omega arith))

pub slice_bounds-ring_survey-end-4 : goal.slice_bounds-ring_survey-end-4
slice_bounds-ring_survey-end-4 c = sym (length-take-le _ _ (omega arith))

pub slice_bounds-ring_survey-end-5 : goal.slice_bounds-ring_survey-end-5
slice_bounds-ring_survey-end-5 c = sym (length-take-le _ _ (omega arith))
