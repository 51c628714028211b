-- Document 01's starred stations, over scene bytes: one list under one statement; stations of turned cameras and of joints under two more; two of the lit map, and three of booked cells; and tiles of windows.
use mathlib.Core.Path.{◌≡◌, refl}
use mathlib.Core.List.{List, [], ◌∷◌, map}
use Prim.Native.Nat.{ℕ}
use lib.IntN.{pos, negsuc}
use lib.ListN.{replicate}
use Rattle.model.specs.Vector.{vec, origin}
use Rattle.model.specs.View.{Axes, level_axes}
use Rattle.model.specs.Call.{Call}
use Rattle.model.specs.Survey.{call_counter}
use Rattle.model.proofs.Computing.{everything}
use Rattle.model.proofs.Scenes.{scene_s, scene_t, scene_tless5, scene_tless7, scene3and5, scene_quarters, scene_wall, scene_twice, scene_pieces, scene_near, scene_wedge, scene_strip, scene_walls, no_nodes, s_of_half_width, turned_call, fitting_call, usual, tile_call}
use Rattle.model.proofs.Stations.{Tried, seen, shows, middle, blank, map_of, booked}

abbrev pub stations : List Tried
stations =
    shows (usual scene_s) (middle 5) (1 ∷ 0 ∷ []) ((0 ∷ 1 ∷ 3 ∷ 1 ∷ []) ∷ (0 ∷ 4 ∷ []) ∷ []) (5 ∷ 0 ∷ [])
    (4 ∷ 12 ∷ [])
    ∷ shows (usual (s_of_half_width (pos 25))) (0 ∷ 0 ∷ 0 ∷ 0 ∷ 0 ∷ 5 ∷ 0 ∷ 0 ∷ 0 ∷ 0 ∷ 0 ∷ 0 ∷ 0 ∷ 0 ∷ 0 ∷ 0 ∷ []) (1 ∷ 0 ∷ [])
    ((0 ∷ 1 ∷ 2 ∷ 2 ∷ []) ∷ (0 ∷ 4 ∷ []) ∷ []) (5 ∷ 0 ∷ []) (1 ∷ 15 ∷ [])
    ∷ shows (usual (s_of_half_width (pos 26))) (middle 5) [] [] (5 ∷ []) (4 ∷ [])
    ∷ shows (fitting_call scene_s (vec (pos 0) (pos 100) (pos 0)) 4 4 4) blank [] [] [] []
    ∷ shows (fitting_call scene_s (vec (pos 0) (pos 200) (pos 0)) 4 4 4) blank [] [] [] []
    ∷ shows (usual scene_t) (middle 7) [] [] (7 ∷ 5 ∷ []) (4 ∷ 0 ∷ [])
    ∷ shows (usual scene_tless5) (middle 7) [] [] [] []
    ∷ shows (usual scene_tless7) (middle 5) [] [] [] []
    ∷ shows (usual scene3and5) (middle 3) [] [] [] []
    ∷ shows (usual no_nodes) blank [] [] [] []
    ∷ shows (fitting_call scene_s origin 1 1 4) (5 ∷ []) [] [] [] []
    ∷ []

-- 64 columns that are all lit
abbrev full_word : ℕ
full_word = 18446744073709551615

-- ---- cameras that look any way

-- rolled by a quarter turn: its right points down, its up to the right
abbrev rolled : Axes
rolled =
    record {
      right = vec (pos 0) (pos 0) (negsuc 0);
      forward = vec (pos 0) (pos 1) (pos 0);
      up = vec (pos 1) (pos 0) (pos 0);
    }

-- upside down
abbrev half_turn : Axes
half_turn =
    record {
      right = vec (negsuc 0) (pos 0) (pos 0);
      forward = vec (pos 0) (pos 1) (pos 0);
      up = vec (pos 0) (pos 0) (negsuc 0);
    }

-- forward askew to right, which nothing forbids
abbrev askew : Axes
askew =
    record {
      right = vec (pos 1) (pos 0) (pos 0);
      forward = vec (pos 1) (pos 1) (pos 0);
      up = vec (pos 0) (pos 0) (pos 1);
    }

-- looking to the right of the bore
abbrev sideways : Axes
sideways =
    record {
      right = vec (pos 0) (negsuc 0) (pos 0);
      forward = vec (pos 1) (pos 0) (pos 0);
      up = vec (pos 0) (pos 0) (pos 1);
    }

abbrev turned_quarters : Axes → List ℕ → Tried
turned_quarters a p = shows (turned_call a scene_quarters origin 4 2 4) p [] [] [] []

abbrev pub turned : List Tried
turned =
    turned_quarters rolled (2 ∷ 2 ∷ 4 ∷ 4 ∷ 1 ∷ 1 ∷ 3 ∷ 3 ∷ [])
    ∷ turned_quarters half_turn (4 ∷ 4 ∷ 3 ∷ 3 ∷ 2 ∷ 2 ∷ 1 ∷ 1 ∷ [])
    ∷ turned_quarters askew (2 ∷ 2 ∷ 0 ∷ 0 ∷ 4 ∷ 4 ∷ 0 ∷ 0 ∷ [])
    ∷ shows (turned_call sideways scene_wall origin 4 4 4) (middle 9) [] [] (9 ∷ []) (4 ∷ [])
    ∷ shows (usual scene_wall) blank [] [] [] []
    ∷ []

-- ---- sight lines along joints

-- 3 by 3, lens 4, eye (0,0,0): the lines of the middle column and of the middle row run through x = 0 and z = 0
abbrev middle_lines : Axes → List ℕ → List ℕ → Tried
middle_lines a bytes p = shows (turned_call a bytes origin 3 3 4) p [] [] [] []

abbrev pub jointed : List Tried
jointed =
    middle_lines level_axes scene_quarters (1 ∷ 2 ∷ 2 ∷ 3 ∷ 4 ∷ 4 ∷ 3 ∷ 4 ∷ 4 ∷ [])
    ∷ middle_lines rolled scene_quarters (2 ∷ 4 ∷ 4 ∷ 1 ∷ 3 ∷ 3 ∷ 1 ∷ 3 ∷ 3 ∷ [])
    ∷ middle_lines level_axes scene_walls (0 ∷ 9 ∷ 9 ∷ 0 ∷ 9 ∷ 9 ∷ 0 ∷ 9 ∷ 9 ∷ [])
    ∷ middle_lines level_axes scene_wedge (replicate 9 0)
    ∷ middle_lines level_axes scene_strip (0 ∷ 0 ∷ 0 ∷ 0 ∷ 6 ∷ 0 ∷ 0 ∷ 0 ∷ 0 ∷ [])
    ∷ []

-- ---- tiles of a window (document 02, F-9)

-- a tile, by its four numbers, of a window of these columns, rows and lens
abbrev part : List ℕ → ℕ → ℕ → ℕ → ℕ → ℕ → ℕ → ℕ → Call
part bytes w h l x y tw th =
    tile_call bytes (record { width = w; height = h; lens = l }) (record { left = x; top = y; width = tw; height = th })

-- a tile of S in 4 by 4 cells, lens 4
abbrev of_s : ℕ → ℕ → ℕ → ℕ → Call
of_s = part scene_s 4 4 4

-- a tile of the four quarters in 5 by 3 cells, lens 4, whose middle column and row run along the joints
abbrev of_quarters : ℕ → ℕ → ℕ → ℕ → Call
of_quarters = part scene_quarters 5 3 4

-- S's four quarters of cells, its middle, and all of it; four tiles that cover 5 by 3 cells once; and of 1,024 by 512 cells eight beside the patch's left edge, with its lens and with twice that. Rows and offsets count from the
-- tile's top left cell.
abbrev tiles : List Tried
tiles =
    shows (of_s 0 0 2 2) (0 ∷ 0 ∷ 0 ∷ 5 ∷ []) (0 ∷ 1 ∷ []) ((0 ∷ 2 ∷ []) ∷ (0 ∷ 1 ∷ []) ∷ []) (5 ∷ 0 ∷ []) (1 ∷ 3 ∷ [])
    ∷ shows (of_s 2 0 2 2) (0 ∷ 0 ∷ 5 ∷ 0 ∷ []) (0 ∷ 1 ∷ []) ((0 ∷ 2 ∷ []) ∷ (1 ∷ 1 ∷ []) ∷ []) (5 ∷ 0 ∷ []) (1 ∷ 3 ∷ [])
    ∷ shows (of_s 0 2 2 2) (0 ∷ 5 ∷ 0 ∷ 0 ∷ []) (0 ∷ 1 ∷ []) ((0 ∷ 1 ∷ []) ∷ (0 ∷ 2 ∷ []) ∷ []) (5 ∷ 0 ∷ []) (1 ∷ 3 ∷ [])
    ∷ shows (of_s 2 2 2 2) (5 ∷ 0 ∷ 0 ∷ 0 ∷ []) (0 ∷ 1 ∷ []) ((1 ∷ 1 ∷ []) ∷ (0 ∷ 2 ∷ []) ∷ []) (5 ∷ 0 ∷ []) (1 ∷ 3 ∷ [])
    ∷ shows (of_s 1 1 2 2) (5 ∷ 5 ∷ 5 ∷ 5 ∷ []) (0 ∷ 1 ∷ []) ([] ∷ [] ∷ []) (5 ∷ 0 ∷ []) (4 ∷ 0 ∷ [])
    ∷ shows (of_s 0 0 4 4) (middle 5) (1 ∷ []) ((0 ∷ 1 ∷ 3 ∷ 1 ∷ []) ∷ []) (5 ∷ 0 ∷ []) (4 ∷ 12 ∷ [])
    ∷ shows (of_quarters 0 0 5 3) (1 ∷ 1 ∷ 2 ∷ 2 ∷ 0 ∷ 3 ∷ 3 ∷ 4 ∷ 4 ∷ 0 ∷ 3 ∷ 3 ∷ 4 ∷ 4 ∷ 0 ∷ []) [] [] (0 ∷ 1 ∷ 2 ∷ 3 ∷ 4 ∷ [])
    (3 ∷ 2 ∷ 2 ∷ 4 ∷ 4 ∷ [])
    ∷ shows (of_quarters 0 0 2 3) (1 ∷ 1 ∷ 3 ∷ 3 ∷ 3 ∷ 3 ∷ []) [] [] (0 ∷ 1 ∷ 2 ∷ 3 ∷ 4 ∷ []) (0 ∷ 2 ∷ 0 ∷ 4 ∷ 0 ∷ [])
    ∷ shows (of_quarters 2 0 3 1) (2 ∷ 2 ∷ 0 ∷ []) [] [] (0 ∷ 1 ∷ 2 ∷ 3 ∷ 4 ∷ []) (1 ∷ 0 ∷ 2 ∷ 0 ∷ 0 ∷ [])
    ∷ shows (of_quarters 2 1 1 2) (4 ∷ 4 ∷ []) [] [] (0 ∷ 1 ∷ 2 ∷ 3 ∷ 4 ∷ []) (0 ∷ 0 ∷ 0 ∷ 0 ∷ 2 ∷ [])
    ∷ shows (of_quarters 3 1 2 2) (4 ∷ 0 ∷ 4 ∷ 0 ∷ []) (0 ∷ []) ((1 ∷ 1 ∷ []) ∷ []) (0 ∷ 1 ∷ 2 ∷ 3 ∷ 4 ∷ []) (2 ∷ 0 ∷ 0 ∷ 0 ∷ 2 ∷ [])
    ∷ shows (part scene_s 1024 512 512 380 255 8 1) (0 ∷ 0 ∷ 0 ∷ 0 ∷ 5 ∷ 5 ∷ 5 ∷ 5 ∷ []) (0 ∷ []) ((0 ∷ 4 ∷ []) ∷ []) [] []
    ∷ shows (part scene_s 1024 512 1024 252 0 8 1) (0 ∷ 0 ∷ 0 ∷ 0 ∷ 5 ∷ 5 ∷ 5 ∷ 5 ∷ []) (0 ∷ []) ((0 ∷ 4 ∷ []) ∷ []) [] []
    ∷ []

pub tile_stations : map seen tiles ≡ map (λ (s : Tried). s.said) tiles
unfolding everything seen
tile_stations = refl

-- "The station counter rises with the tile that holds the window's last cell, and with no other."
pub tile_counters :
    map call_counter (of_s 0 0 2 2 ∷ of_s 2 0 2 2 ∷ of_s 0 2 2 2 ∷ of_s 2 2 2 2 ∷ of_s 1 1 2 2 ∷ of_s 0 0 4 4 ∷ part scene_s 1024 512 4 768 384 256 128 ∷ [])
    ≡ 0 ∷ 0 ∷ 0 ∷ 1 ∷ 0 ∷ 1 ∷ 1 ∷ []
unfolding call_counter
tile_counters = refl

-- the map of a tile: bits count from the tile's first column, and those beyond its width stay clear
pub map_of_a_tile : map_of (of_s 1 1 3 2) (0 ∷ 1 ∷ []) ≡ record { result = 0; words = (3 ∷ 0 ∷ 0 ∷ 0 ∷ []) ∷ (3 ∷ 0 ∷ 0 ∷ 0 ∷ []) ∷ []; counted = 2 ∷ 2 ∷ []; firsts = 2 ∷ 2 ∷ [] }
unfolding everything map_of
map_of_a_tile = refl

-- What the definitions say of each starred station is what document 01 says of it; of half-width 25 what document 02's F-3 makes of it.
pub starred_stations : map seen stations ≡ map (λ (s : Tried). s.said) stations
unfolding everything seen
starred_stations = refl

-- S in one row of 65, which is lit over a word's end; and seen from the right in one row of 130, of which the left half is lit: words and their bits stand from the left.
pub map_of_a_full_row :
    map_of (fitting_call scene_s origin 65 1 4096) (0 ∷ []) ≡ record { result = 0; words = (full_word ∷ 1 ∷ 0 ∷ 0 ∷ []) ∷ []; counted = 65 ∷ []; firsts = 65 ∷ [] }
unfolding everything map_of
map_of_a_full_row = refl

pub map_from_the_right :
    map_of (fitting_call scene_s (vec (pos 50) (pos 0) (pos 0)) 130 1 130) (0 ∷ []) ≡ record { result = 0; words = (full_word ∷ 1 ∷ 0 ∷ 0 ∷ []) ∷ []; counted = 65 ∷ []; firsts = 65 ∷ [] }
unfolding everything map_of
map_from_the_right = refl

-- The same quarters as turned cameras see them, and a wall that only a turned camera sees.
pub turned_stations : map seen turned ≡ map (λ (s : Tried). s.said) turned
unfolding everything seen
turned_stations = refl

-- Four panels that meet in a corner, seen level and rolled; of two walls that meet in an edge on the sight lines, the nearer one; a wedge that the lines just
-- beside pass above, as the step down is small beside the step to the right; and a strip that the lines of one row only touch.
pub joint_stations : map seen jointed ≡ map (λ (s : Tried). s.said) jointed
unfolding everything seen
joint_stations = refl

-- S's square twice: the earlier patch has all cells.
pub square_twice :
    booked (usual scene_twice) (5 ∷ []) ≡
    record { result = 0; shown = middle 5; each = 4 ∷ 0 ∷ []; counted = 4 ∷ []; added = 4 ∷ [] }
unfolding everything booked
square_twice = refl

-- Overlapping pieces of two panels on one plane: the lower panel has a cell before the other, the earlier patch before the later of its panel.
pub pieces_overlap :
    booked (fitting_call scene_pieces origin 8 4 4) (3 ∷ 5 ∷ []) ≡
    record {
      result = 0;
      shown =
          0 ∷ 0 ∷ 5 ∷ 5 ∷ 5 ∷ 5 ∷ 0 ∷ 0 ∷ 0 ∷ 0 ∷ 3 ∷ 3 ∷ 5 ∷ 5 ∷ 0 ∷ 0 ∷ 0 ∷ 0 ∷ 3 ∷ 3 ∷ 5 ∷ 5 ∷ 0 ∷ 0 ∷ 0 ∷ 0 ∷ 5 ∷ 5 ∷ 5 ∷ 5 ∷ 0 ∷ 0 ∷ [];
      each = 2 ∷ 2 ∷ 12 ∷ 0 ∷ [];
      counted = 4 ∷ 12 ∷ [];
      added = 4 ∷ 12 ∷ [];
    }
unfolding everything booked
pieces_overlap = refl

-- A panel in two nodes: the nearer piece has its cells, though it stands later in the table.
pub nearer_piece :
    booked (fitting_call scene_near origin 8 8 8) (5 ∷ []) ≡
    record {
      result = 0;
      shown =
          0 ∷ 0 ∷ 0 ∷ 0 ∷ 0 ∷ 0 ∷ 0 ∷ 0 ∷ 0 ∷ 0 ∷ 0 ∷ 0 ∷ 0 ∷ 0 ∷ 0 ∷ 0 ∷ 0 ∷ 0 ∷ 5 ∷ 5 ∷ 5 ∷ 5 ∷ 0 ∷ 0 ∷ 0 ∷ 0 ∷ 5 ∷ 5 ∷ 5 ∷ 5 ∷ 0 ∷ 0 ∷ 0 ∷ 0 ∷ 5 ∷ 5 ∷ 5 ∷ 5 ∷ 0 ∷ 0 ∷ 0 ∷ 0 ∷ 5 ∷ 5 ∷ 5 ∷ 5 ∷ 0 ∷ 0 ∷ 0 ∷ 0 ∷ 0 ∷ 0 ∷ 0 ∷ 0 ∷ 0 ∷ 0 ∷ 0 ∷ 0 ∷ 0 ∷ 0 ∷ 0 ∷ 0 ∷ 0 ∷ 0 ∷ [];
      each = 12 ∷ 4 ∷ [];
      counted = 16 ∷ [];
      added = 16 ∷ [];
    }
unfolding everything booked
nearer_piece = refl
