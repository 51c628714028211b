-- Every limit that stands in this crate's definitions as a number, tried by computing: the numbers at the limit pass, the next ones do not.
use mathlib.Core.Bool.{Bool, true, not, cond, ◌&&◌, false}
use mathlib.Core.List.{List, [], ◌∷◌, ◌++◌}
use mathlib.Core.Option.{some}
use Prim.Native.Nat.{ℕ, suc, ◌+◌, ◌-◌, ◌%◌}
use lib.Dec.{T, eqb, leb}
use lib.IntN.{ℤ, pos, neg_ℤ, ◌-ℤ◌}
use lib.Signed.{le_z}
use lib.ListN.{length, get_or, take, drop, replicate}
use Rattle.model.specs.Lists.{every, range}
use Rattle.model.specs.Vector.{Vec, Plane, vec, origin, is_zero}
use Rattle.model.specs.Patch.{Patch, corners_counted}
use Rattle.model.specs.Format.{Scene, u16_at, u32_at, signed16}
use Rattle.model.specs.Row.{segments, row_pairs, row_of, used_part}
use Rattle.model.specs.Map.{map_row, lit_cells, first_unlit}
use Rattle.model.specs.Picture.{counts, next_counter}
use Rattle.model.specs.View.{Window, Axes, Tile, Camera, level_axes}
use Rattle.model.specs.Lent.{Lengths}
use Rattle.model.specs.Call.{call_view}
use Rattle.model.specs.Questions.{has_header, has_sections, coordinates_in_range, proper_child, panels_in_range, whole_in_range, view_in_range, axes_proper, lengths_fit, counter_below_end}
use Rattle.model.specs.Removal.{is_chosen}
use Rattle.model.proofs.Encode.{header_bytes}
use Rattle.model.proofs.Computing.{everything}
use Rattle.model.proofs.Scenes.{fitting_call, tile_call}

-- a test, numbers that pass it, and numbers that do not
record Limit : Type 0 where
  test : ℕ → Bool
  passing : List ℕ
  failing : List ℕ

abbrev limit : (ℕ → Bool) → List ℕ → List ℕ → Limit
limit t ps fs = record { test = t; passing = ps; failing = fs }

-- the limit stands where it is said to
abbrev holds_at : Limit → Bool
holds_at l = every l.test l.passing && every (λ (n : ℕ). not (l.test n)) l.failing

-- ---- questions 1 and 2, by the header

-- a scene of some length, whose header says that length: all its sections are empty (`take` walks the header only, as a walk of 57,376 bytes is dear)
abbrev long : ℕ → List ℕ
long n =
    take n (header_bytes (record { version = 1; reserved = 0; whole = n; start = 32; node_size = 0; patch_size = 0; corner_size = 0 }))
    ++ replicate (n - 32) 0

abbrev sections : ℕ → ℕ → ℕ → ℕ → List ℕ
sections s n p c =
    header_bytes
    (record { version = 1; reserved = 0; whole = s + n + p + c; start = s; node_size = n; patch_size = p; corner_size = c })

abbrev headed : ℕ → ℕ → List ℕ
headed v r =
    header_bytes (record { version = v; reserved = r; whole = 32; start = 32; node_size = 0; patch_size = 0; corner_size = 0 })

abbrev header_limits : List Limit
header_limits =
    limit (λ n. has_header (long n)) (32 ∷ 57376 ∷ []) (31 ∷ 57377 ∷ [])
    ∷ limit (λ n. has_header (headed n 0)) (1 ∷ []) (0 ∷ 2 ∷ [])
    ∷ limit (λ n. has_header (headed 1 n)) (0 ∷ []) (1 ∷ [])
    ∷ limit (λ n. has_sections (sections n 0 0 0)) (32 ∷ []) (31 ∷ 33 ∷ [])
    -- 1,024 nodes of 26 bytes, 1,024 patches of 6, 4,096 corners of 6
    ∷ limit (λ n. has_sections (sections 32 n 0 0)) (26 ∷ 26624 ∷ []) (25 ∷ 27 ∷ 26650 ∷ [])
    ∷ limit (λ n. has_sections (sections 32 0 n 0)) (6 ∷ 6144 ∷ []) (5 ∷ 7 ∷ 6150 ∷ [])
    ∷ limit (λ n. has_sections (sections 32 0 0 n)) (6 ∷ 24576 ∷ []) (5 ∷ 7 ∷ 24582 ∷ [])
    ∷ []

-- ---- questions 3, 5, 6 and 7, of a scene's records

-- a number on one of the axes, to either side
abbrev on_axes : (Vec → Bool) → ℕ → Bool
on_axes test n =
    test (vec (pos n) (pos 0) (pos 0))
    && test (vec (pos 0) (pos n) (pos 0))
    && test (vec (pos 0) (pos 0) (pos n))
    && test (vec (neg_ℤ (pos n)) (pos 0) (pos 0))
    && test (vec (pos 0) (neg_ℤ (pos n)) (pos 0))
    && test (vec (pos 0) (pos 0) (neg_ℤ (pos n)))

-- no number on an axis passes, to either side
abbrev off_axes : (Vec → Bool) → ℕ → Bool
off_axes test = on_axes (λ v. not (test v))

abbrev one_node : Plane → Scene
one_node s =
    record {
      nodes = record { plane = s; positive = 65535; negative = 65535; patch_run = record { first = 0; count = 0 } } ∷ [];
      patches = [];
      corners = [];
    }

abbrev one_corner : Vec → Scene
one_corner v = record { nodes = []; patches = []; corners = v ∷ [] }

abbrev one_panel : ℕ → Scene
one_panel n =
    record {
      nodes = [];
      patches = record { panel = n; corner_run = record { first = 0; count = 0 } } ∷ [];
      corners = [];
    }

abbrev of_corners : ℕ → Patch
of_corners n = record { panel = 1; corners = replicate n origin }

-- the tests of a coordinate's place: a corner, a node's three points, the eye
abbrev placed : List (Vec → Bool)
placed =
    (λ v. coordinates_in_range (one_corner v))
    ∷ (λ v. coordinates_in_range (one_node (record { a = v; b = origin; c = origin })))
    ∷ (λ v. coordinates_in_range (one_node (record { a = origin; b = v; c = origin })))
    ∷ (λ v. coordinates_in_range (one_node (record { a = origin; b = origin; c = v })))
    ∷ (λ v. view_in_range (call_view (fitting_call [] v 4 4 4)))
    ∷ []

abbrev scene_limits : List Limit
scene_limits =
    limit (λ n. every (λ (t : Vec → Bool). on_axes t n) placed) (0 ∷ 10000 ∷ []) []
    ∷ limit (λ n. every (λ (t : Vec → Bool). off_axes t n) placed) (10001 ∷ []) []
    -- node 1 of three has the children 2 and none
    ∷ limit (proper_child 3 1) (2 ∷ 65535 ∷ []) (1 ∷ 3 ∷ 65534 ∷ 65536 ∷ [])
    ∷ limit (λ n. corners_counted (of_corners n)) (3 ∷ 8 ∷ []) (2 ∷ 9 ∷ [])
    ∷ limit (λ n. panels_in_range (one_panel n)) (1 ∷ 1024 ∷ []) (0 ∷ 1025 ∷ [])
    ∷ []

-- ---- question 14, of a camera's axes

-- axes by their nine parts: those of right, of forward, of up
abbrev axes_of_parts : List ℤ → Axes
axes_of_parts ps =
    let part : ℕ → ℤ = λ k. get_or ps k (pos 0) in
    record {
      right = vec (part 0) (part 1) (part 2);
      forward = vec (part 3) (part 4) (part 5);
      up = vec (part 6) (part 7) (part 8);
    }

-- a level camera, and one that looks straight up
abbrev level : List ℤ
level = pos 1 ∷ pos 0 ∷ pos 0 ∷ pos 0 ∷ pos 1 ∷ pos 0 ∷ pos 0 ∷ pos 0 ∷ pos 1 ∷ []

abbrev upward : List ℤ
upward = pos 0 ∷ pos 1 ∷ pos 0 ∷ pos 0 ∷ pos 0 ∷ pos 1 ∷ pos 1 ∷ pos 0 ∷ pos 0 ∷ []

-- z in place of part k, in that one of the two whose part k is 0: right · (forward × up) is then 1 for every z
abbrev with_part : ℕ → ℤ → Axes
with_part k z =
    let ps : List ℤ = cond (eqb (k % 4) 0) upward level in
    axes_of_parts (take k ps ++ (z ∷ drop (suc k) ps))

abbrev axes_limits : List Limit
axes_limits =
    limit (λ n. every (λ (k : ℕ). axes_proper (with_part k (pos n)) && axes_proper (with_part k (neg_ℤ (pos n)))) (range 0 9))
    (0 ∷ 100 ∷ [])
    []
    ∷ limit
    (λ n. every (λ (k : ℕ). not (axes_proper (with_part k (pos n))) && not (axes_proper (with_part k (neg_ℤ (pos n))))) (range 0 9))
    (101 ∷ [])
    []
    -- right · (forward × up) is n − 1
    ∷ limit (λ n. axes_proper (axes_of_parts ((pos n -ℤ pos 1) ∷ drop 1 level))) (2 ∷ []) (0 ∷ 1 ∷ [])
    ∷ []

-- ---- question 15 of a whole number, and questions 10 to 12 of a call

abbrev window : ℕ → ℕ → ℕ → Window
window w h l = record { width = w; height = h; lens = l }

abbrev tile : ℕ → ℕ → ℕ → ℕ → Tile
tile l t w h = record { left = l; top = t; width = w; height = h }

-- a camera with a tile of 5 by 3 cells of a window of 9 by 7, and lengths for it and a scene of six patches
abbrev five_by_three : Camera
five_by_three = record { axes = level_axes; window = window 9 7 4; tile = tile 2 1 5 3 }

-- question 10 of a window and a tile, from the origin
abbrev tile_asked : Window → Tile → Bool
tile_asked w t = view_in_range (call_view (tile_call [] w t))

abbrev lengths : ℕ → ℕ → ℕ → ℕ → ℕ → Lengths
lengths p n b u m = record { picture = p; counts = n; patch_counts = b; unlit = u; lit = m }

abbrev call_limits : List Limit
call_limits =
    limit (λ n. whole_in_range (some (pos n))) (0 ∷ 10000 ∷ []) (10001 ∷ [])
    ∷ limit (λ n. whole_in_range (some (neg_ℤ (pos n)))) (0 ∷ 10000 ∷ []) (10001 ∷ [])
    ∷ limit (λ n. view_in_range (call_view (fitting_call [] origin n 4 4))) (1 ∷ 256 ∷ []) (0 ∷ 257 ∷ [])
    ∷ limit (λ n. view_in_range (call_view (fitting_call [] origin 4 n 4))) (1 ∷ 128 ∷ []) (0 ∷ 129 ∷ [])
    ∷ limit (λ n. view_in_range (call_view (fitting_call [] origin 4 4 n))) (1 ∷ 4096 ∷ []) (0 ∷ 4097 ∷ [])
    -- a tile of a wide window: the window's width and height, the tile's place and size at the window's end, and its own limits
    ∷ limit (λ n. tile_asked (window n 4 4) (tile 0 0 1 1)) (1 ∷ 257 ∷ 1024 ∷ []) (0 ∷ 1025 ∷ [])
    ∷ limit (λ n. tile_asked (window 4 n 4) (tile 0 0 1 1)) (1 ∷ 129 ∷ 512 ∷ []) (0 ∷ 513 ∷ [])
    ∷ limit (λ n. tile_asked (window 4 4 n) (tile 0 0 1 1)) (1 ∷ 4096 ∷ []) (0 ∷ 4097 ∷ [])
    ∷ limit (λ n. tile_asked (window 1024 512 4) (tile n 384 256 128)) (0 ∷ 768 ∷ []) (769 ∷ 65535 ∷ [])
    ∷ limit (λ n. tile_asked (window 1024 512 4) (tile 768 n 256 128)) (0 ∷ 384 ∷ []) (385 ∷ 65535 ∷ [])
    ∷ limit (λ n. tile_asked (window 1024 512 4) (tile 700 0 n 1)) (1 ∷ 256 ∷ []) (0 ∷ 257 ∷ [])
    ∷ limit (λ n. tile_asked (window 1024 512 4) (tile 0 300 1 n)) (1 ∷ 128 ∷ []) (0 ∷ 129 ∷ [])
    -- the whole numbers 65,535 + 1 are not 0, and a tile of a narrow or low window ends with it
    ∷ limit (λ n. tile_asked (window 9 7 4) (tile n 0 1 1)) (0 ∷ 8 ∷ []) (9 ∷ 65535 ∷ [])
    ∷ limit (λ n. tile_asked (window 9 7 4) (tile 0 n 1 1)) (0 ∷ 6 ∷ []) (7 ∷ 65535 ∷ [])
    ∷ limit (λ n. tile_asked (window 9 7 4) (tile 2 1 n 3)) (1 ∷ 7 ∷ []) (0 ∷ 8 ∷ [])
    ∷ limit (λ n. tile_asked (window 9 7 4) (tile 2 1 5 n)) (1 ∷ 6 ∷ []) (0 ∷ 7 ∷ [])
    -- the counter: it rises with the tile that holds the window's last cell
    ∷ limit (λ n. eqb (next_counter (record { axes = level_axes; window = window 9 7 4; tile = tile n 1 5 6 }) 7) 8) (4 ∷ []) (0 ∷ 3 ∷ [])
    ∷ limit (λ n. eqb (next_counter (record { axes = level_axes; window = window 9 7 4; tile = tile 4 n 5 3 }) 7) 8) (4 ∷ []) (0 ∷ 3 ∷ [])
    ∷ limit (λ n. eqb (next_counter (record { axes = level_axes; window = window 9 7 4; tile = tile 4 1 5 n }) 7) 7) (1 ∷ 5 ∷ []) (6 ∷ [])
    ∷ limit (λ n. lengths_fit five_by_three 6 (lengths n 1025 6 768 12)) (15 ∷ []) (14 ∷ 16 ∷ [])
    ∷ limit (λ n. lengths_fit five_by_three 6 (lengths 15 n 6 768 12)) (1025 ∷ []) (1024 ∷ 1026 ∷ [])
    ∷ limit (λ n. lengths_fit five_by_three 6 (lengths 15 1025 n 768 12)) (6 ∷ []) (5 ∷ 7 ∷ [])
    -- a scene without patches has a table without entries
    ∷ limit (λ n. lengths_fit five_by_three 0 (lengths 15 1025 n 768 12)) (0 ∷ []) (1 ∷ [])
    ∷ limit (λ n. lengths_fit five_by_three 6 (lengths 15 1025 6 n 12)) (768 ∷ []) (767 ∷ 769 ∷ [])
    ∷ limit (λ n. lengths_fit five_by_three 6 (lengths 15 1025 6 768 n)) (12 ∷ []) (11 ∷ 13 ∷ [])
    ∷ limit counter_below_end (0 ∷ 4294967294 ∷ []) (4294967295 ∷ [])
    ∷ []

-- ---- the bytes' numbers, the rows and the counts

abbrev form_limits : List Limit
form_limits =
    limit (λ n. eqb (u16_at (n ∷ n ∷ []) 0) 65535) (255 ∷ []) (254 ∷ [])
    ∷ limit (λ n. eqb (u32_at (n ∷ n ∷ n ∷ n ∷ []) 0) 4294967295) (255 ∷ []) (254 ∷ [])
    -- two's complement: the numbers that are not negative, and how far below 0 the last and the first of the others are
    ∷ limit (λ n. le_z (pos 0) (signed16 n)) (0 ∷ 32767 ∷ []) (32768 ∷ 65535 ∷ [])
    ∷ limit (λ n. is_zero (signed16 65535 -ℤ neg_ℤ (pos n))) (1 ∷ []) (0 ∷ 2 ∷ [])
    ∷ limit (λ n. is_zero (signed16 32768 -ℤ neg_ℤ (pos n))) (32768 ∷ []) (32767 ∷ 32769 ∷ [])
    -- of n columns every other one is unlit: at most 128 segments in a row of at most 256
    ∷ limit (λ n. leb (length (segments n (λ i. eqb (i % 2) 0))) row_pairs) (255 ∷ 256 ∷ []) (257 ∷ [])
    -- a row has 256 numbers, row 1 of the lists those from 256 on
    ∷ limit (λ n. eqb (length (row_of 4 (λ i. true))) n) (256 ∷ []) (255 ∷ 257 ∷ [])
    ∷ limit (λ n. eqb (length (used_part (replicate n 1) 0)) 256) (256 ∷ 257 ∷ []) (255 ∷ [])
    ∷ limit (λ n. eqb (length (used_part (replicate n 1) 1)) 256) (512 ∷ 513 ∷ []) (511 ∷ [])
    -- a row's words: all of 256 columns lit, and one beyond a word's end; rows 0 and 1 at the map's end; a full row asked with any width
    ∷ limit (λ n. eqb (lit_cells (map_row n (λ i. false)) 0) n) (64 ∷ 65 ∷ 256 ∷ []) (257 ∷ [])
    ∷ limit (λ n. eqb (get_or (map_row n (λ i. false)) 1 0) 1) (65 ∷ []) (64 ∷ 66 ∷ [])
    ∷ limit (λ n. eqb (lit_cells (replicate n 1) 0) 4) (4 ∷ 5 ∷ []) (3 ∷ [])
    ∷ limit (λ n. eqb (lit_cells (replicate n 1) 1) 4) (8 ∷ 9 ∷ []) (7 ∷ [])
    ∷ limit (λ n. eqb (first_unlit (replicate n 1) 256 1) 1) (8 ∷ 9 ∷ []) (7 ∷ [])
    ∷ limit (λ n. eqb (first_unlit (replicate 4 18446744073709551615) n 0) n) (0 ∷ 255 ∷ 256 ∷ []) (257 ∷ 300 ∷ [])
    -- a count for "nothing" and one for each panel up to 1,024
    ∷ limit (λ n. eqb (length (counts [])) n) (1025 ∷ []) (1024 ∷ 1026 ∷ [])
    ∷ limit (λ n. eqb (get_or (counts (n ∷ [])) n 0) 1) (0 ∷ 1024 ∷ []) (1025 ∷ [])
    ∷ []

-- ---- demand 3

-- "Chosen panels are any numbers from 1 to 1,024": with every number chosen
abbrev chosen_limits : List Limit
chosen_limits = limit (is_chosen (λ n. true)) (1 ∷ 1024 ∷ []) (0 ∷ 1025 ∷ []) ∷ []

-- ---- each list by itself: all of them at once take several times as long to compute
abbrev Hold : List Limit → Type 0
Hold limits = T (every holds_at limits)

header_limits_lem : Hold header_limits
unfolding everything
header_limits_lem = tt

scene_limits_lem : Hold scene_limits
unfolding everything
scene_limits_lem = tt

axes_limits_lem : Hold axes_limits
unfolding everything
axes_limits_lem = tt

call_limits_lem : Hold call_limits
unfolding everything
call_limits_lem = tt

form_limits_lem : Hold form_limits
unfolding everything
form_limits_lem = tt

chosen_limits_lem : Hold chosen_limits
unfolding everything
chosen_limits_lem = tt

-- At each limit the definitions say what the rules say.
pub limits_hold : Hold header_limits × Hold scene_limits × Hold axes_limits × Hold call_limits × Hold form_limits × Hold chosen_limits
limits_hold = (header_limits_lem, scene_limits_lem, axes_limits_lem, call_limits_lem, form_limits_lem, chosen_limits_lem)
