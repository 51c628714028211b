-- The survey call that an input of an eye and a window (12 bytes) and a scene asks for.
use Rattle.std.specs.Prelude.{List, ℕ, zero, suc, ◌*◌, length, drop}
use Rattle.model.specs.Vector.{vec}
use Rattle.model.specs.View.{Window, Camera, level_axes, whole_tile}
use Rattle.model.specs.Station.{units}
use Rattle.model.specs.Format.{u16_at, i16_at, decode}
use Rattle.model.specs.Row.{row_length}
use Rattle.model.specs.Map.{row_words}
use Rattle.model.specs.Call.{Call}
use Rattle.model.specs.Questions.{survey_answer}
use Rattle.model.specs.Survey.{call_counts}
use Rattle.contract.specs.Contract.{lengths_by, gate_call}

-- a level camera with a window of these columns, rows and lens. Document 02, F-1, of the old view: "`ringbill` keeps it"; F-9: "`ringbill` draws its window as one tile."
abbrev pub one_tile : ℕ → ℕ → ℕ → Camera
one_tile w h l =
    let window : Window = record { width = w; height = h; lens = l } in
    record { axes = level_axes; window = window; tile = whole_tile window }

-- The picture, the table of the patches' cells, the unlit lists and the lit map are as long as question 11 asks. The
-- station counter is 0.
unfoldable pub input_call : List ℕ → ℕ → Call
input_call input entries =
    gate_call (drop 12 input)
    (units (vec (i16_at input 0) (i16_at input 2) (i16_at input 4)))
    (one_tile (u16_at input 6) (u16_at input 8) (u16_at input 10))
    (lengths_by (u16_at input 6 * u16_at input 8) entries (length (decode (drop 12 input)).patches) (u16_at input 8 * row_length) (u16_at input 8 * row_words))
    0

-- the new counts where the answer is 0, and the old ones where it is a refusal
abbrev pub counts_by : ℕ → List ℕ → List ℕ → List ℕ
counts_by zero new old = new
counts_by (suc n) new old = old

unfoldable pub input_counts : List ℕ → List ℕ → List ℕ
input_counts input before =
    counts_by (survey_answer (input_call input (length before))) (call_counts (input_call input (length before))) before
