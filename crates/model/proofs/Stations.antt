-- What is seen of calls over scene bytes, and the stations that the model's own edits are told by: four quarters, a tile of theirs, S from stations in metres, and S's lit map. `worked` has the others.
use mathlib.Core.Path.{◌≡◌, refl}
use mathlib.Core.Bool.{cond}
use mathlib.Core.List.{List, [], ◌∷◌, map, sum}
use Prim.Native.Nat.{ℕ, ◌+◌}
use lib.Dec.{eqb}
use lib.IntN.{ℤ, pos}
use lib.Ieee.{Float, binary64, of_bits}
use lib.ListN.{length, get_or, replicate}
use Rattle.model.specs.Lists.{range}
use Rattle.model.specs.Vector.{origin}
use Rattle.model.specs.Patch.{numbered}
use Rattle.model.specs.View.{level_axes}
use Rattle.model.specs.Station.{metres}
use Rattle.model.specs.Row.{used_part}
use Rattle.model.specs.Map.{words_of, lit_cells, first_unlit}
use Rattle.model.specs.Call.{Call}
use Rattle.model.specs.Questions.{survey_answer}
use Rattle.model.specs.Survey.{call_patches, call_picture, call_counts, call_patch_cells, call_unlit, call_lit}
use Rattle.model.proofs.Computing.{everything}
use Rattle.model.proofs.Scenes.{scene_s, scene_quarters, s_of_half_width, station_call, fitting_call, usual, tile_call}

-- what is seen of a call: its answer (0 is "done"), its picture, the used pairs of some rows, and the counts of some panels (of "nothing" at 0)
pub record Outcome : Type 0 where
  pub result : ℕ
  pub shown : List ℕ
  pub rows : List (List ℕ)
  pub cells : List ℕ

-- a call, the rows and panels that are looked at, and what is due
pub record Tried : Type 0 where
  pub call : Call
  pub rows_asked : List ℕ
  pub panels_asked : List ℕ
  pub said : Outcome

-- what the definitions say of it
unfoldable pub seen : Tried → Outcome
seen s =
    let lists = call_unlit s.call in
    let counted = call_counts s.call in
    record {
      result = survey_answer s.call;
      shown = call_picture s.call;
      rows = map (used_part lists) s.rows_asked;
      cells = map (λ (n : ℕ). get_or counted n 0) s.panels_asked;
    }

-- "rows 1 and 2 read 0 5 5 0, rows 0 and 3 are 0", for any panel
abbrev pub middle : ℕ → List ℕ
middle n = 0 ∷ 0 ∷ 0 ∷ 0 ∷ 0 ∷ n ∷ n ∷ 0 ∷ 0 ∷ n ∷ n ∷ 0 ∷ 0 ∷ 0 ∷ 0 ∷ 0 ∷ []

-- sixteen 0s
abbrev pub blank : List ℕ
blank = replicate 16 0

-- an accepted call
abbrev pub shows : Call → List ℕ → List ℕ → List (List ℕ) → List ℕ → List ℕ → Tried
shows c p js rs ns ks =
    record { call = c; rows_asked = js; panels_asked = ns; said = record { result = 0; shown = p; rows = rs; cells = ks } }

-- No starred station tells left from right or top from bottom: cells stand row after row from the top, each row from the left.
abbrev pub quarters : Tried
quarters =
    shows (fitting_call scene_quarters origin 4 2 4) (1 ∷ 1 ∷ 2 ∷ 2 ∷ 3 ∷ 3 ∷ 4 ∷ 4 ∷ []) (0 ∷ []) ([] ∷ []) (1 ∷ 0 ∷ [])
    (2 ∷ 0 ∷ [])

-- The four quarters again, 5 by 3: of that window the tile from column 3 and row 1 on, 2 by 2. It tells a tile's columns from its rows, and its own cells from a window's of its size (document 02, F-9).
abbrev pub tile_of_quarters : Tried
tile_of_quarters =
    shows (tile_call scene_quarters (record { width = 5; height = 3; lens = 4 }) (record { left = 3; top = 1; width = 2; height = 2 }))
    (4 ∷ 0 ∷ 4 ∷ 0 ∷ []) (0 ∷ []) ((1 ∷ 1 ∷ []) ∷ []) (4 ∷ 0 ∷ []) (2 ∷ 2 ∷ [])

-- ---- stations in metres (document 02, F-7)

-- S with a half-width, 4 by 4, lens 4, from a station in metres
abbrev from_metres : ℤ → Float → Float → Float → List ℕ → Tried
from_metres h x y z p = shows (station_call (metres x y z) level_axes (s_of_half_width h) 4 4 4) p [] [] [] []

abbrev double : ℕ → Float
double = of_bits binary64

-- Both zeros are 0. 0.0625 to the right is the eye (12,0,0), which half-width 38 tells from (13,0,0); 0.1875 is (38,0,0), which half-width 37 tells from (37,0,0); half a
-- metre forward is the eye (0,100,0), in the patch's plane.
abbrev pub in_metres : List Tried
in_metres =
    from_metres (pos 50) (double 0) (double 0x8000_0000_0000_0000) (double 0) (middle 5)
    ∷ from_metres (pos 38) (double 0x3fb0_0000_0000_0000) (double 0) (double 0) (middle 5)
    ∷ from_metres (pos 37) (double 0x3fc8_0000_0000_0000) (double 0) (double 0)
    (0 ∷ 0 ∷ 0 ∷ 0 ∷ 5 ∷ 5 ∷ 0 ∷ 0 ∷ 5 ∷ 5 ∷ 0 ∷ 0 ∷ 0 ∷ 0 ∷ 0 ∷ 0 ∷ [])
    ∷ from_metres (pos 50) (double 0) (double 0x3fe0_0000_0000_0000) (double 0) blank
    ∷ []

-- ---- the lit map (document 02, F-8)

-- what is seen of a call's map: its answer, the four words of some rows, and of each the lit cells and the first unlit column
pub record Mapped : Type 0 where
  pub result : ℕ
  pub words : List (List ℕ)
  pub counted : List ℕ
  pub firsts : List ℕ

unfoldable pub map_of : Call → List ℕ → Mapped
map_of c js =
    record {
      result = survey_answer c;
      words = map (words_of (call_lit c)) js;
      counted = map (lit_cells (call_lit c)) js;
      firsts = map (first_unlit (call_lit c) c.camera.tile.width) js;
    }

-- ---- cells booked patch by patch

-- what is seen of a call's patches: its answer and picture, the cells of each patch and, of some panels, the counts and the sums over their patches
pub record Bookings : Type 0 where
  pub result : ℕ
  pub shown : List ℕ
  pub each : List ℕ
  pub counted : List ℕ
  pub added : List ℕ

unfoldable pub booked : Call → List ℕ → Bookings
booked c panels =
    let totals = call_counts c in
    let patch_totals = call_patch_cells c in
    record {
      result = survey_answer c;
      shown = call_picture c;
      each = patch_totals;
      counted = map (λ (n : ℕ). get_or totals n 0) panels;
      added = map (λ (n : ℕ). sum ◌+◌ 0 (map (of_panel patch_totals n) (range 0 (length (call_patches c))))) panels;
    }
  where
    of_panel : List ℕ → ℕ → ℕ → ℕ
    of_panel cells n k = cond (eqb (numbered (call_patches c) k).panel n) (get_or cells k 0) 0

-- S in 4 by 4 cells
pub map_of_s : map_of (usual scene_s) (0 ∷ 1 ∷ []) ≡ record { result = 0; words = (0 ∷ 0 ∷ 0 ∷ 0 ∷ []) ∷ (6 ∷ 0 ∷ 0 ∷ 0 ∷ []) ∷ []; counted = 0 ∷ 2 ∷ []; firsts = 0 ∷ 0 ∷ [] }
unfolding everything map_of
map_of_s = refl

pub rows_from_the_top : seen quarters ≡ quarters.said
unfolding everything seen
rows_from_the_top = refl

pub tile_of_quarters_lem : seen tile_of_quarters ≡ tile_of_quarters.said
unfolding everything seen
tile_of_quarters_lem = refl

pub metre_stations : map seen in_metres ≡ map (λ (s : Tried). s.said) in_metres
unfolding everything seen of_bits
metre_stations = refl
