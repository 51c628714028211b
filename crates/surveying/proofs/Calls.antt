-- The survey's contract: refused, or accepted and painted.
use mathlib.Core.Path.{◌≡◌, sym, ◌∙◌, ap, subst}
use mathlib.Core.List.{List}
use Prim.Native.Nat.{ℕ, ◌<◌}
use native.Mathlib.Omega.{arith}
use lib.Dec.{T, ltb→lt}
use lib.ListN.{length}
use Rattle.std.specs.Prelude.{Result, IsErrAnd}
use Rattle.model.specs.Vector.{Vec}
use Rattle.model.specs.View.{View}
use Rattle.model.specs.Station.{Station, eye_of, view_at}
use Rattle.model.specs.Lent.{Lent, Lengths, lengths_of}
use Rattle.model.specs.Call.{Call}
use Rattle.model.specs.Format.{decode}
use Rattle.model.specs.Picture.{next_counter}
use Rattle.model.specs.Questions.{point_in_range, tile_in_window, counter_below_end, survey_answer}
use Rattle.model.specs.Survey.{call_picture, call_counts, call_patch_cells, call_unlit, call_lit, call_counter}
use Rattle.model.proofs.Answers.{AcceptedCall, accepted_call}
use Rattle.model.proofs.CallLimits.{ViewBounded, view_bounded, AxesBounded, axes_bounded, LengthsRight, lengths_right}
use Rattle.geometry.specs.declared.Vector.{Vector}
use Rattle.geometry.specs.Machine.{vec_of}
use Rattle.geometry.proofs.Sizes.{parts_bounded}
use Rattle.camera.specs.declared.Camera.{Camera}
use Rattle.camera.specs.Machine.{camera_of, view_of}
use Rattle.refusal.specs.declared.Refusal.{Refusal}
use Rattle.refusal.specs.Refusal.{refusal_number, answer_of}
use Rattle.refusal.proofs.HandedOn.{handed_on, never_done}
use Rattle.contract.specs.Contract.{lent_of, gate_call, call_on, results, left_by, Surveyed}
use Rattle.contract.proofs.Refusal.{left_old}
use Rattle.rendering.specs.Painted.{PaintingAsked, Rendered}

module _
    (bytes : List ℕ) (s : Station) (camera : Camera) (before : Lent)
  where
    abbrev v : View
    v = view_at s (camera_of camera)

    abbrev call : Call
    call = call_on bytes s (camera_of camera) before

    -- the answer goes by the lengths of what is lent
    pub answered_on : {k : Lengths} {n : ℕ} → k ≡ lengths_of before → n ≡ survey_answer (gate_call bytes s (camera_of camera) k before.counter) → n ≡ survey_answer call
    answered_on e h = h ∙ (λ i. survey_answer (gate_call bytes s (camera_of camera) (e i) before.counter))

    -- "The first no gives its number, and nothing lent is altered."
    pub refused :
        {T : Type 0} (r : Refusal) (result : Result T Refusal) → IsErrAnd result (λ (e : Refusal). e ≡ r) →
        refusal_number r ≡ survey_answer call → Surveyed bytes s (camera_of camera) before before (answer_of result)
    refused r result handed answer =
        record {
          answered = handed_on r result handed ∙ answer;
          left =
              left_old (survey_answer call) (results call) before (λ z. never_done r (answer ∙ z));
        }

    module _ (answer : 0 ≡ survey_answer call) where
      yes : AcceptedCall call
      yes = (accepted_call call).0 (sym answer)

      view : ViewBounded v
      view = view_bounded v yes.view

      axes : AxesBounded v.camera.axes
      axes = axes_bounded v.camera.axes yes.axes

      fitting : LengthsRight v.camera (length (decode bytes).patches) (lengths_of before)
      fitting = lengths_right v.camera (length (decode bytes).patches) (lengths_of before) yes.lengths

      module _ {eye : Vector} (same_eye : vec_of eye ≡ eye_of s) {read : List ℕ} (same : read ≡ bytes) where
        -- what painting asks
        pub paintable : PaintingAsked read eye camera before
        paintable =
            subst (λ (b : List ℕ). PaintingAsked b eye camera before) (sym same)
            (record {
              accepted = yes.scene;
              near = parts_bounded 10000 eye (omega arith) (subst (λ (e : Vec). T (point_in_range e)) (sym same_eye) view.point);
              aimed =
                  record {
                    right_bounded = parts_bounded 100 camera.axes.right (omega arith) axes.right_short;
                    forward_bounded = parts_bounded 100 camera.axes.forward (omega arith) axes.forward_short;
                    up_bounded = parts_bounded 100 camera.axes.up (omega arith) axes.up_short;
                    wide = view.wide;
                    high = view.high;
                    first_column = omega (arith, view.inside.columns, view.inside.some_columns);
                    first_row = omega (arith, view.inside.rows, view.inside.some_rows);
                    lens_within = record { within = view.lens_most };
                  };
              framed =
                  record {
                    narrow = view.narrow;
                    low = omega (arith, view.low);
                    cells = fitting.cells;
                    rows = fitting.rows;
                    words = fitting.words;
                  };
              entries = fitting.booked;
              counted = fitting.entries;
            })

        pub rendered_from :
            {after : Lent} → Rendered read (view_of eye camera) after → Rendered bytes v after
        rendered_from {after} h =
            subst (λ (b : List ℕ). Rendered b v after) same
            (subst (λ (e : Vec). Rendered read (record { eye = e; camera = camera_of camera }) after) same_eye h)

      -- what the counter's next value asks
      pub counter_asked : T (tile_in_window v.camera.window v.camera.tile) × (before.counter < 4294967295)
      unfolding counter_below_end
      counter_asked = (view.tile_said, ltb→lt before.counter 4294967295 yes.counter)

      -- an accepted call leaves its results
      pub accepted :
          {after : Lent} {k : ℕ} → Rendered bytes v after → k ≡ next_counter (camera_of camera) before.counter →
          Surveyed bytes s (camera_of camera) before (record after { counter = k }) 0
      unfolding call_picture call_counts call_patch_cells call_unlit call_lit call_counter
      accepted r e =
          let p = r.painted in
          record {
            answered = answer;
            left =
                (λ i. lent_of (p.cells_are i) (r.counts_are i) (p.booked_are i) (p.unlit_are i) (p.lit_are i) (e i))
                ∙ ap (λ (m : ℕ). left_by m (results call) before) answer;
          }
