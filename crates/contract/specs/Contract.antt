-- The equations that the survey call promises, for every input.
use Rattle.std.specs.Prelude.{◌≡◌, List, ℕ, zero, suc}
use Rattle.model.specs.Vector.{Vec}
use Rattle.model.specs.View.{Axes, Tile, Camera}
use Rattle.model.specs.Station.{Station}
use Rattle.model.specs.Lent.{Lent, Lengths, lengths_of}
use Rattle.model.specs.Call.{Call}
use Rattle.model.specs.Questions.{survey_answer}
use Rattle.model.specs.Survey.{call_picture, call_counts, call_patch_cells, call_unlit, call_lit, call_counter}

-- axes by their three vectors
abbrev pub axes_by : Vec → Vec → Vec → Axes
axes_by r f u = record { right = r; forward = f; up = u }

-- a tile by its four numbers: the place of its top left cell in the window, and its size
abbrev pub tile_by : ℕ → ℕ → ℕ → ℕ → Tile
tile_by l t w h = record { left = l; top = t; width = w; height = h }

-- a camera by its axes, its window's three numbers and its tile
abbrev pub camera_by : Axes → ℕ → ℕ → ℕ → Tile → Camera
camera_by a w h l t = record { axes = a; window = record { width = w; height = h; lens = l }; tile = t }

-- the five buffers and the counter
abbrev pub lent_of : List ℕ → List ℕ → List ℕ → List ℕ → List ℕ → ℕ → Lent
lent_of p n b u m k = record { picture = p; counts = n; patch_counts = b; unlit = u; lit = m; counter = k }

-- the lengths of the five buffers
abbrev pub lengths_by : ℕ → ℕ → ℕ → ℕ → ℕ → Lengths
lengths_by p n b u m = record { picture = p; counts = n; patch_counts = b; unlit = u; lit = m }

-- the call on a scene from a station with a camera, with buffers of these lengths and this counter
abbrev pub gate_call : List ℕ → Station → Camera → Lengths → ℕ → Call
gate_call bytes s c l k = record { scene = bytes; station = s; camera = c; lengths = l; counter = k }

-- the same with these buffers lent
abbrev pub call_on : List ℕ → Station → Camera → Lent → Call
call_on bytes s c lent = gate_call bytes s c (lengths_of lent) lent.counter

-- what an accepted call leaves
abbrev pub results : Call → Lent
results c =
    record {
      picture = call_picture c;
      counts = call_counts c;
      patch_counts = call_patch_cells c;
      unlit = call_unlit c;
      lit = call_lit c;
      counter = call_counter c;
    }

-- the results where the answer is 0, and what was there before where it is a refusal. Document 01: "nothing lent is altered"
abbrev pub left_by : ℕ → Lent → Lent → Lent
left_by zero new old = new
left_by (suc n) new old = old

-- The survey call: its result is the answer, and it leaves the results or, refusing, what it was lent.
pub record Surveyed (bytes : List ℕ) (s : Station) (c : Camera) (before after : Lent) (result : ℕ) : Type 0 where
  pub answered : result ≡ survey_answer (call_on bytes s c before)
  pub left : after ≡ left_by (survey_answer (call_on bytes s c before)) (results (call_on bytes s c before)) before
