-- What `ringbill` prints, from its input alone: "eye (three i16), width, height, lens (u16 each), then the scene".
use Rattle.std.specs.Prelude.{cond, List, ℕ, zero, suc, length}
use Rattle.sheet.specs.Sheet.{sheet, refusal}
use Rattle.model.specs.Call.{Call}
use Rattle.model.specs.Questions.{within, survey_answer}
use Rattle.model.specs.Picture.{count_entries}
use Rattle.model.specs.Survey.{call_counts}
use Rattle.input.specs.Input.{input_call}

-- the bill of an accepted call if the answer is 0, which is "done", and a refusal otherwise
unfoldable pub bill_by : ℕ → List ℕ → List ℕ
bill_by zero accepted = accepted
bill_by (suc n) accepted = refusal (suc n)

-- the bill of the survey call that the input asks for
unfoldable pub call_bill : Call → List ℕ
call_bill c =
    bill_by (survey_answer c)
    (sheet c.camera.window.width c.camera.window.height c.camera.window.lens (call_counts c))

-- "Input under 12 or over 57,388 bytes prints `refused 1`"
unfoldable pub bill : List ℕ → List ℕ
bill input = cond (within 12 57388 (length input)) (call_bill (input_call input count_entries)) (refusal 1)
