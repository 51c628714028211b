-- Windows drawn in tiles, from the scenes' bytes: all that whole windows ask for (document 02, F-9) is met at once.
use mathlib.Core.Path.{◌≡◌, refl, ◌∙◌}
use mathlib.Core.Bool.{Bool}
use mathlib.Core.List.{List, [], ◌∷◌, map}
use Prim.Native.Nat.{ℕ, zero-le, ◌*◌}
use lib.Dec.{T, eqb, eqb→eq}
use lib.ListN.{replicate}
use Rattle.model.specs.Lists.{every, range, tally}
use Rattle.model.specs.Vector.{origin}
use Rattle.model.specs.View.{Tile, View, holds}
use Rattle.model.specs.Station.{units, view_at}
use Rattle.model.specs.Lent.{Lent}
use Rattle.model.specs.Questions.{survey_answer}
use Rattle.model.specs.Survey.{call_counter}
use Rattle.model.proofs.Computing.{everything}
use Rattle.model.proofs.Tests.{every_true}
use Rattle.model.proofs.Ranges.{of_map, in_range}
use Rattle.model.proofs.Totals.{tally_map}
use Rattle.model.proofs.Scenes.{scene_s, scene_t, scene_tless7}
use Rattle.model.proofs.Stations.{middle}
use Rattle.contract.specs.Contract.{tile_by, lent_of, call_on, results}
use Rattle.windows.specs.Windows.{TileCall, on_tile, AcceptedTile, Tiling, cell_from, whole_picture, added_count, added_patch_count, Passes, WholeWindow, WindowsTakenAway, SameWindow}
use Rattle.windows.proofs.WholeWindow.{whole_window}
use Rattle.windows.proofs.Compared.{windows_compared}
use Rattle.worked.proofs.Examples.{halves, halves_cover}
use Rattle.worked.proofs.Pairs.{among, by_four, surveyed, taken_7}

-- "4 by 4, lens 4, eye (0,0,0)"
abbrev view : View
view = view_at (units origin) by_four

-- buffers for a tile and a scene of this many patches, all holding 9, and the counter at 7
abbrev lent_for : ℕ → Tile → Lent
lent_for patches t =
    lent_of (replicate (t.width * t.height) 9) (replicate 1025 9) (replicate patches 9) (replicate (t.height * 256) 9)
    (replicate (t.height * 4) 9) 7

-- the answer to the call on a tile, and the call, with what it leaves
abbrev answer_on : List ℕ → ℕ → Tile → ℕ
answer_on bytes patches t = survey_answer (call_on bytes (units origin) (on_tile by_four t) (lent_for patches t))

abbrev drawn : List ℕ → ℕ → Tile → TileCall
drawn bytes patches t =
    record {
      station = units origin;
      tile = t;
      before = lent_for patches t;
      after = results (call_on bytes (units origin) (on_tile by_four t) (lent_for patches t));
      result = 0;
    }

-- each cell of the window lies in exactly one of the tiles
abbrev in_one : List Tile → ℕ → ℕ → Bool
in_one tiles y x = eqb (tally (λ (t : Tile). holds t x y) tiles) 1

abbrev covers : List Tile → Bool
covers tiles = every (λ (y : ℕ). every (in_one tiles y) (range 0 4)) (range 0 4)

-- tiles that cover the window once, and whose calls answer 0, give a tiling
tiled :
    (bytes : List ℕ) (patches : ℕ) (tiles : List Tile) →
    T (every (λ (t : Tile). eqb (answer_on bytes patches t) 0) tiles) →
    T (covers tiles) →
    Tiling bytes view (map (drawn bytes patches) tiles)
tiled bytes patches tiles answers covered =
    record {
      accepted =
          of_map (AcceptedTile bytes view) (drawn bytes patches) tiles
          (λ t m.
          record {
            one_eye = refl;
            surveyed =
                surveyed bytes (units origin) (on_tile by_four t) (lent_for patches t)
                (eqb→eq (answer_on bytes patches t) 0 ((every_true (λ (t : Tile). eqb (answer_on bytes patches t) 0) tiles).0 answers t m));
            done = refl;
          });
      once =
          λ x y h k.
          let row = (every_true (λ (y : ℕ). every (in_one tiles y) (range 0 4)) (range 0 4)).0 covered y ((in_range 0 4 y).1 (zero-le, k)) in
          tally_map (λ (t : Tile). holds t x y) (λ (c : TileCall). c.tile) (map (drawn bytes patches) tiles)
          ∙ tally_map (λ (c : TileCall). holds c.tile x y) (drawn bytes patches) tiles
          ∙ eqb→eq (tally (λ (t : Tile). holds t x y) tiles) 1
          ((every_true (in_one tiles y) (range 0 4)).0 row x ((in_range 0 4 x).1 (zero-le, h)));
    }

-- four tiles 2 by 2
abbrev quarters : List Tile
quarters = tile_by 0 0 2 2 ∷ tile_by 2 0 2 2 ∷ tile_by 0 2 2 2 ∷ tile_by 2 2 2 2 ∷ []

-- ---- S

abbrev quarters_of_s : List TileCall
quarters_of_s = map (drawn scene_s 1) quarters

-- they cover the window once, and each is accepted
quarters_tiled : Tiling scene_s view quarters_of_s
unfolding everything
quarters_tiled = tiled scene_s 1 quarters tt tt

-- S in four tiles: each has one of the four cells that show panel 5, and put together they are document 01's picture of S.
pub quarters_show :
    map (λ (c : TileCall). c.after.picture) quarters_of_s
    ≡ (0 ∷ 0 ∷ 0 ∷ 5 ∷ []) ∷ (0 ∷ 0 ∷ 5 ∷ 0 ∷ []) ∷ (0 ∷ 5 ∷ 0 ∷ 0 ∷ []) ∷ (5 ∷ 0 ∷ 0 ∷ 0 ∷ []) ∷ []
unfolding everything
quarters_show = refl

pub quarters_whole : WholeWindow scene_s view quarters_of_s × (whole_picture by_four.window quarters_of_s ≡ middle 5)
unfolding everything cell_from whole_picture
quarters_whole = (whole_window _ _ _ quarters_tiled, refl)

-- "their counts add": of panel 5, of nothing, and of S's one patch
pub quarters_count :
    (added_count quarters_of_s 5 ≡ 4) × (added_count quarters_of_s 0 ≡ 12) × (added_patch_count quarters_of_s 0 ≡ 4)
unfolding everything
quarters_count = (refl, refl, refl)

-- the counter, handed from call to call, rises with the last tile alone
pub quarters_pass : Passes 7 quarters_of_s 8
unfolding call_counter
quarters_pass = (refl, (refl, (refl, (refl, refl))))

-- ---- T and T less panel 7

abbrev quarters_of_t : List TileCall
quarters_of_t = map (drawn scene_t 2) quarters

abbrev whole_of_rest : List TileCall
whole_of_rest = drawn scene_tless7 1 (tile_by 0 0 4 4) ∷ []

-- T in four tiles, T less its panel 7 in one: the panel had all four cells, and each shows panel 5 now.
pub windows_taken_away_worked :
    WindowsTakenAway scene_t (among (7 ∷ [])) view quarters_of_t whole_of_rest
    × (whole_picture by_four.window quarters_of_t ≡ middle 7)
    × (whole_picture by_four.window whole_of_rest ≡ middle 5)
    × (added_count quarters_of_t 7 ≡ 4)
unfolding everything cell_from whole_picture
windows_taken_away_worked = (
  (windows_compared _ _ _ _ _ (tiled scene_t 2 quarters tt tt) (tiled scene_tless7 1 (tile_by 0 0 4 4 ∷ []) tt tt)).demand_three (among (7 ∷ [])) taken_7,
  refl,
  refl,
  refl,
)

-- ---- S and its halves

abbrev whole_of_halves : List TileCall
whole_of_halves = drawn halves 2 (tile_by 0 0 4 4) ∷ []

-- S in four tiles, its two halves in one: the four cells of panel 5 are shared out among the halves, and picture and panel count agree.
pub windows_cut_anew_worked :
    SameWindow by_four.window quarters_of_s whole_of_halves
    × (whole_picture by_four.window whole_of_halves ≡ middle 5)
    × (added_count whole_of_halves 5 ≡ 4)
    × (map (added_patch_count whole_of_halves) (range 0 2) ≡ 2 ∷ 2 ∷ [])
unfolding everything cell_from whole_picture
windows_cut_anew_worked = (
  (windows_compared _ _ _ _ _ quarters_tiled (tiled halves 2 (tile_by 0 0 4 4 ∷ []) tt tt)).two_cuttings halves_cover,
  refl,
  refl,
  refl,
)
