-- Scenes and calls at the limits of the questions, over bytes: one list under one statement. Each question is seen to say yes and no;
-- and where two questions say no, the one that is asked first gives the answer.
use mathlib.Core.Path.{◌≡◌, refl}
use mathlib.Core.Bool.{Bool, true, false, cond}
use mathlib.Core.List.{List, [], ◌∷◌, ◌++◌, map}
use Prim.Native.Nat.{ℕ, ◌+◌}
use lib.IntN.{ℤ, pos, negsuc, neg_ℤ}
use lib.ListN.{get_or, take, replicate}
use lib.Ieee.{Float, nan, inf, binary64, of_bits}
use Rattle.model.specs.Vector.{Vec, Plane, vec, origin}
use Rattle.model.specs.View.{Window, Axes, level_axes, whole_tile}
use Rattle.model.specs.Station.{units, metres}
use Rattle.model.specs.Call.{Call}
use Rattle.model.specs.Questions.{Question, answer, questions}
use Rattle.model.proofs.Encode.{u16, u32, header_bytes, body_bytes, scene_bytes}
use Rattle.model.proofs.Computing.{everything}
use Rattle.model.proofs.Scenes.{square, upright, none, node_line, patch_line, scene_s, s_of_half_width, turned_call, fitting_call, usual, tile_call}

-- the numbers of all questions that say no
unfoldable pub noes : {A : Type 0} → List (Question A) → A → List ℕ
noes [] a = []
noes (q ∷ qs) a = cond (q.test a) (noes qs a) (q.number ∷ noes qs a)

-- ---- one node and its patches, each fault on its own or two at once

-- a plane whose three points are on one line
abbrev flat_line : Plane
flat_line =
    record {
      a = vec (pos 0) (pos 0) (pos 0);
      b = vec (pos 1) (pos 1) (pos 1);
      c = vec (pos 2) (pos 2) (pos 2);
    }

-- S with another plane, children, panel, patch run and corner run
abbrev like_s : Plane → ℕ → ℕ → ℕ → ℕ → List Vec → List ℕ
like_s s child runLength panel cornerCount cs =
    scene_bytes (node_line s child none 0 runLength ∷ []) (patch_line panel 0 cornerCount ∷ []) cs

abbrev plane_s : Plane
plane_s = upright (pos 100) (pos 50)

abbrev corners_s : List Vec
corners_s = square (pos 100) (pos 50)

-- an octagon on S's plane, and the same with a ninth corner
abbrev octagon : List Vec
octagon =
    vec (neg_ℤ (pos 20)) (pos 100) (neg_ℤ (pos 50))
    ∷ vec (pos 20) (pos 100) (neg_ℤ (pos 50))
    ∷ vec (pos 50) (pos 100) (neg_ℤ (pos 20))
    ∷ vec (pos 50) (pos 100) (pos 20)
    ∷ vec (pos 20) (pos 100) (pos 50)
    ∷ vec (neg_ℤ (pos 20)) (pos 100) (pos 50)
    ∷ vec (neg_ℤ (pos 50)) (pos 100) (pos 20)
    ∷ vec (neg_ℤ (pos 50)) (pos 100) (neg_ℤ (pos 20))
    ∷ []

abbrev nonagon : List Vec
nonagon = octagon ++ vec (neg_ℤ (pos 36)) (pos 100) (neg_ℤ (pos 36)) ∷ []

-- S's square with a corner midway along its first edge
abbrev midway : List Vec
midway =
    vec (neg_ℤ (pos 50)) (pos 100) (neg_ℤ (pos 50))
    ∷ vec (pos 0) (pos 100) (neg_ℤ (pos 50))
    ∷ vec (pos 50) (pos 100) (neg_ℤ (pos 50))
    ∷ vec (pos 50) (pos 100) (pos 50)
    ∷ vec (neg_ℤ (pos 50)) (pos 100) (pos 50)
    ∷ []

-- a corner that stands twice
abbrev twice : List Vec
twice = vec (neg_ℤ (pos 50)) (pos 100) (neg_ℤ (pos 50)) ∷ corners_s

-- a triangle that is gone round twice: each other corner goes by its place, so it is not strictly convex, though by their values the corners are
abbrev doubled : List Vec
doubled = take 3 corners_s ++ take 3 corners_s

-- S's square the other way round: as good
abbrev other_way : List Vec
other_way =
    vec (neg_ℤ (pos 50)) (pos 100) (pos 50)
    ∷ vec (pos 50) (pos 100) (pos 50)
    ∷ vec (pos 50) (pos 100) (neg_ℤ (pos 50))
    ∷ vec (neg_ℤ (pos 50)) (pos 100) (neg_ℤ (pos 50))
    ∷ []

-- S's square with its fourth corner one unit behind the plane of the others
abbrev bent : List Vec
bent = take 3 corners_s ++ vec (neg_ℤ (pos 50)) (pos 101) (pos 50) ∷ []

-- a square off its node's plane
abbrev off_plane : List Vec
off_plane = square (pos 90) (pos 50)

-- ---- a lower patch under the plane y = 100, whose positive side is before it: below the positive child, with one edge on the plane, and wholly on it

abbrev leaning : List Vec
leaning =
    vec (neg_ℤ (pos 50)) (pos 100) (pos 0)
    ∷ vec (pos 50) (pos 100) (pos 0)
    ∷ vec (pos 50) (pos 50) (pos 0)
    ∷ vec (neg_ℤ (pos 50)) (pos 50) (pos 0)
    ∷ []

abbrev level : Plane
level =
    record {
      a = vec (neg_ℤ (pos 50)) (pos 100) (pos 0);
      b = vec (pos 50) (pos 100) (pos 0);
      c = vec (pos 50) (pos 50) (pos 0);
    }

-- the lower node's plane, the side of the upper plane that it is put on, and its patch
abbrev below : Plane → ℕ → ℕ → List Vec → List ℕ
below s p n cs =
    scene_bytes (node_line plane_s p n 0 0 ∷ node_line s none none 0 1 ∷ []) (patch_line 5 0 4 ∷ []) cs

-- a plane before S's
abbrev nearer : Plane
nearer = upright (pos 50) (pos 20)

-- a root on S's plane and a node below it on the nearer one, with these patch runs: first and count of the root's, then of the other's
abbrev runs : ℕ → ℕ → ℕ → ℕ → List Vec → List ℕ
runs f c f' c' cs =
    scene_bytes (node_line plane_s 1 none f c ∷ node_line nearer none none f' c' ∷ []) (patch_line 5 0 4 ∷ []) cs

-- ---- a patch before S's plane, between two sides, below two planes without a patch: S's and, as the root, x = 0, whose positive side is the left

abbrev third_level : ℤ → ℤ → List ℕ
third_level left right =
    scene_bytes (node_line middle 1 none 0 0 ∷ node_line plane_s 2 none 0 0 ∷ node_line nearer none none 0 1 ∷ []) (patch_line 5 0 4 ∷ [])
    (vec left (pos 50) (neg_ℤ (pos 20)) ∷ vec right (pos 50) (neg_ℤ (pos 20)) ∷ vec right (pos 50) (pos 20) ∷ vec left (pos 50) (pos 20) ∷ [])
  where
    middle : Plane
    middle = record { a = origin; b = vec (pos 0) (pos 0) (pos 1); c = vec (pos 0) (pos 1) (pos 0) }

-- ---- the call's own numbers

-- S seen by a camera with these axes, with buffers of the given lengths and the given counter
abbrev lent_turned : Axes → ℕ → ℕ → ℕ → ℕ → ℕ → ℕ → ℕ → Call
lent_turned a w p n b u m k =
    let window : Window = record { width = w; height = 4; lens = 4 } in
    record {
      scene = scene_s;
      station = units origin;
      camera = record { axes = a; window = window; tile = whole_tile window };
      lengths = record { picture = p; counts = n; patch_counts = b; unlit = u; lit = m };
      counter = k;
    }

abbrev lent : ℕ → ℕ → ℕ → ℕ → ℕ → ℕ → ℕ → Call
lent = lent_turned level_axes

-- a tile, by its four numbers, of a window of these columns and rows
abbrev tiled : ℕ → ℕ → ℕ → ℕ → ℕ → ℕ → Call
tiled w h x y tw th =
    tile_call scene_s (record { width = w; height = h; lens = 4 }) (record { left = x; top = y; width = tw; height = th })

-- the tile of 2 by 3 cells in the middle of a window of 6 by 7, with a picture, lists and a map of these lengths and this counter
abbrev tile_lent : ℕ → ℕ → ℕ → ℕ → Call
tile_lent p u m k =
    let c : Call = tiled 6 7 2 2 2 3 in
    record {
      scene = c.scene;
      station = c.station;
      camera = c.camera;
      lengths = record { picture = p; counts = 1025; patch_counts = 1; unlit = u; lit = m };
      counter = k;
    }

-- a level camera's axes with another right, and with another up
abbrev with_right : Vec → Axes
with_right v = record { right = v; forward = level_axes.forward; up = level_axes.up }

abbrev with_up : Vec → Axes
with_up v = record { right = level_axes.right; forward = level_axes.forward; up = v }

abbrev at : ℤ → Vec
at x = vec x (pos 0) (pos 0)

-- a call from a station in metres
abbrev from : Float → Float → Float → Call → Call
from x y z c =
    record { scene = c.scene; station = metres x y z; camera = c.camera; lengths = c.lengths; counter = c.counter }

-- the double of 0, that of 50.0025, which gives 10,000 units, and the next one, which gives 10,001; and both below 0
abbrev zero_metres : Float
zero_metres = of_bits binary64 0

abbrev last_metres : Float
last_metres = of_bits binary64 0x4049_0051_eb85_1eb8

abbrev beyond_metres : Float
beyond_metres = of_bits binary64 0x4049_0051_eb85_1eb9

abbrev first_metres : Float
first_metres = of_bits binary64 0xc049_0051_eb85_1eb8

abbrev below_metres : Float
below_metres = of_bits binary64 0xc049_0051_eb85_1eb9

-- S, or S with other corners, under a spoilt header
abbrev headed : List Vec → ℕ → ℕ → ℕ → ℕ → ℕ → ℕ → ℕ → List ℕ
headed cs v r w s n p c =
    header_bytes
    (record { version = v; reserved = r; whole = w; start = s; node_size = n; patch_size = p; corner_size = c })
    ++ body_bytes (node_line plane_s none none 0 1 ∷ []) (patch_line 5 0 4 ∷ []) cs

abbrev header : ℕ → ℕ → ℕ → ℕ → ℕ → ℕ → ℕ → List ℕ
header = headed corners_s

-- S with so many bytes between its nodes and its patches, and between its patches and its corners, all named rightly by the header
abbrev parted : ℕ → ℕ → List ℕ
parted p c =
    u16 1 ++ u16 0 ++ u32 (88 + p + c)
    ++ u32 32 ++ u32 26
    ++ u32 (58 + p) ++ u32 6
    ++ u32 (64 + p + c) ++ u32 24
    ++ body_bytes (node_line plane_s none none 0 1 ∷ []) [] []
    ++ replicate p 0
    ++ body_bytes [] (patch_line 5 0 4 ∷ []) []
    ++ replicate c 0
    ++ body_bytes [] [] corners_s

-- a call, and the numbers of all questions that say no to it
pub record Case : Type 0 where
  pub call : Call
  pub expected : List ℕ

abbrev case : List ℕ → List ℕ → Case
case bytes ns = record { call = usual bytes; expected = ns }

abbrev on_call : Call → List ℕ → Case
on_call c ns = record { call = c; expected = ns }

abbrev pub cases : List Case
cases =
    -- a whole header, and one byte less or another number in each of its fields
    case (header 1 0 88 32 26 6 24) []
    ∷ case (take 31 scene_s) (1 ∷ 4 ∷ 5 ∷ 6 ∷ 7 ∷ [])
    ∷ case (header 2 0 88 32 26 6 24) (1 ∷ [])
    ∷ case (header 1 1 88 32 26 6 24) (1 ∷ [])
    ∷ case (header 1 0 87 32 26 6 24) (1 ∷ 2 ∷ [])
    ∷ case (header 1 0 88 32 26 6 18) (2 ∷ 6 ∷ [])
    ∷ case (header 1 0 88 32 26 12 18) (6 ∷ 7 ∷ [])
    ∷ case (headed (square (pos 10001) (pos 50)) 1 0 88 32 26 6 18) (2 ∷ 3 ∷ 6 ∷ 9 ∷ [])
    ∷ case (header 1 0 88 32 27 5 24) (2 ∷ 6 ∷ [])
    -- a section that does not begin where the one before it ended, though the last ends at the whole length
    ∷ case (parted 0 0) []
    ∷ case (parted 6 0) (2 ∷ [])
    ∷ case (parted 0 6) (2 ∷ [])
    -- coordinates of a corner, of a node's point; and at the limit
    ∷ case (s_of_half_width (pos 10000)) []
    ∷ case (s_of_half_width (pos 10001)) (3 ∷ [])
    ∷ case (like_s plane_s none 1 5 4 (square (pos 100) (negsuc 10000))) (3 ∷ [])
    -- a line for a plane, with a coordinate out of range too, and with a child that is the node's own number too
    ∷ case (like_s flat_line none 1 5 4 corners_s) (4 ∷ [])
    ∷ case (like_s flat_line none 1 5 4 (square (pos 10001) (pos 50))) (3 ∷ 4 ∷ [])
    ∷ case (like_s flat_line 0 1 5 4 corners_s) (4 ∷ 5 ∷ [])
    -- a child: its own number, above the count, and a node named twice
    ∷ case (like_s plane_s 0 0 5 4 corners_s) (5 ∷ 6 ∷ [])
    ∷ case (like_s plane_s 1 1 5 4 corners_s) (5 ∷ [])
    ∷ case (below plane_s 1 1 corners_s) (5 ∷ 9 ∷ [])
    ∷ case (below plane_s none none corners_s) (5 ∷ [])
    -- corners 8 pass, 2 and 9 do not; a run that leaves a patch or corners out; 6 before 7
    ∷ case (like_s plane_s none 1 5 8 octagon) []
    ∷ case (like_s plane_s none 1 5 2 (take 2 corners_s)) (6 ∷ [])
    ∷ case (like_s plane_s none 1 5 9 nonagon) (6 ∷ [])
    ∷ case (like_s plane_s none 0 5 4 corners_s) (6 ∷ [])
    ∷ case (like_s plane_s none 1 5 3 corners_s) (6 ∷ [])
    ∷ case (like_s plane_s none 1 0 3 corners_s) (6 ∷ 7 ∷ [])
    -- an empty run that names the place where it would begin, and that names another, after and before the patch
    ∷ case (runs 0 1 1 0 corners_s) []
    ∷ case (runs 0 1 0 0 corners_s) (6 ∷ [])
    ∷ case (runs 0 0 0 1 (square (pos 50) (pos 20))) []
    ∷ case (runs 1 0 0 1 (square (pos 50) (pos 20))) (6 ∷ [])
    -- a patch or corners without a node
    ∷ case (scene_bytes [] (patch_line 5 0 0 ∷ []) []) (6 ∷ [])
    ∷ case (scene_bytes [] [] corners_s) (6 ∷ [])
    -- panels; 7 before 8
    ∷ case (like_s plane_s none 1 1024 4 corners_s) []
    ∷ case (like_s plane_s none 1 1025 4 corners_s) (7 ∷ [])
    ∷ case (like_s plane_s none 1 0 4 corners_s) (7 ∷ [])
    ∷ case (like_s plane_s none 1 0 5 midway) (7 ∷ 8 ∷ [])
    ∷ case
    (scene_bytes (node_line plane_s none none 0 2 ∷ []) (patch_line 5 0 4 ∷ patch_line 5 4 4 ∷ [])
    (corners_s ++ corners_s))
    []
    ∷ case
    (scene_bytes (node_line plane_s none none 0 2 ∷ []) (patch_line 5 0 4 ∷ patch_line 3 4 4 ∷ [])
    (corners_s ++ corners_s))
    (7 ∷ [])
    -- shapes; 8 before 9
    ∷ case (like_s plane_s none 1 5 4 other_way) []
    ∷ case (like_s plane_s none 1 5 5 midway) (8 ∷ [])
    ∷ case (like_s plane_s none 1 5 5 twice) (8 ∷ [])
    ∷ case (like_s plane_s none 1 5 6 doubled) (8 ∷ [])
    ∷ case (like_s plane_s none 1 5 4 bent) (8 ∷ 9 ∷ [])
    ∷ case (like_s level none 1 5 5 midway) (8 ∷ 9 ∷ [])
    -- the planes; 9 before 10
    ∷ case (like_s plane_s none 1 5 4 off_plane) (9 ∷ [])
    ∷ case (below level 1 none leaning) []
    ∷ case (below level none 1 leaning) (9 ∷ [])
    ∷ case (below plane_s 1 none corners_s) (9 ∷ [])
    ∷ case (third_level (neg_ℤ (pos 20)) (pos 0)) []
    ∷ case (third_level (neg_ℤ (pos 20)) (pos 20)) (9 ∷ [])
    ∷ case (third_level (pos 0) (pos 20)) (9 ∷ [])
    ∷ on_call (fitting_call (like_s plane_s none 1 5 4 off_plane) origin 0 4 4) (9 ∷ 10 ∷ [])
    -- a station in metres: its doubles at the limits and beyond, each part on its own; 9 before 15, 15 before 10, 14, 11 and 12
    ∷ on_call (from zero_metres last_metres first_metres (usual scene_s)) []
    ∷ on_call (from beyond_metres zero_metres zero_metres (usual scene_s)) (15 ∷ 10 ∷ [])
    ∷ on_call (from zero_metres beyond_metres zero_metres (usual scene_s)) (15 ∷ 10 ∷ [])
    ∷ on_call (from zero_metres zero_metres below_metres (usual scene_s)) (15 ∷ 10 ∷ [])
    ∷ on_call (from zero_metres zero_metres nan (usual scene_s)) (15 ∷ [])
    ∷ on_call (from zero_metres (inf true) zero_metres (usual scene_s)) (15 ∷ [])
    ∷ on_call (from (inf false) zero_metres zero_metres (usual scene_s)) (15 ∷ [])
    ∷ on_call (from nan nan nan (usual (like_s plane_s none 1 5 4 off_plane))) (9 ∷ 15 ∷ [])
    ∷ on_call (from zero_metres zero_metres nan (fitting_call scene_s origin 0 4 4)) (15 ∷ 10 ∷ [])
    ∷ on_call (from nan zero_metres zero_metres (lent_turned (with_right (at (pos 101))) 4 15 1025 1 1024 16 4294967295)) (15 ∷ 14 ∷ 11 ∷ 12 ∷ [])
    -- the view; 10 before 11
    ∷ on_call (fitting_call scene_s origin 256 1 4) []
    ∷ on_call (fitting_call scene_s origin 257 1 4) (10 ∷ [])
    ∷ on_call (fitting_call scene_s origin 1 128 4) []
    ∷ on_call (fitting_call scene_s origin 1 129 4) (10 ∷ [])
    ∷ on_call (fitting_call scene_s origin 4 0 4) (10 ∷ [])
    ∷ on_call (fitting_call scene_s origin 4 4 4096) []
    ∷ on_call (fitting_call scene_s origin 4 4 4097) (10 ∷ [])
    ∷ on_call (fitting_call scene_s origin 4 4 0) (10 ∷ [])
    ∷ on_call (fitting_call scene_s (at (neg_ℤ (pos 10000))) 4 4 4) []
    ∷ on_call (fitting_call scene_s (at (neg_ℤ (pos 10001))) 4 4 4) (10 ∷ [])
    ∷ on_call (lent 0 1 1025 1 1024 16 0) (10 ∷ 11 ∷ [])
    -- tiles of a wide window: the last one, one column and one row past it, an empty one, one too wide and one too high for a tile; a sum that 16 bits would cut to 0; the window itself at its limits and beyond
    ∷ on_call (tiled 1024 512 768 384 256 128) []
    ∷ on_call (tiled 1024 512 769 384 256 128) (10 ∷ [])
    ∷ on_call (tiled 1024 512 768 385 256 128) (10 ∷ [])
    ∷ on_call (tiled 1024 512 0 0 0 1) (10 ∷ [])
    ∷ on_call (tiled 1024 512 0 0 1 0) (10 ∷ [])
    ∷ on_call (tiled 1024 512 0 0 257 1) (10 ∷ [])
    ∷ on_call (tiled 1024 512 0 0 1 129) (10 ∷ [])
    ∷ on_call (tiled 1024 512 65535 0 1 1) (10 ∷ [])
    ∷ on_call (tiled 1024 512 0 65535 1 1) (10 ∷ [])
    ∷ on_call (tiled 1025 512 0 0 1 1) (10 ∷ [])
    ∷ on_call (tiled 1024 513 0 0 1 1) (10 ∷ [])
    -- the lengths of a tile of 2 by 3 cells, its window's lengths, and 12 though the counter would not rise
    ∷ on_call (tile_lent 6 768 12 0) []
    ∷ on_call (tile_lent 42 768 12 0) (11 ∷ [])
    ∷ on_call (tile_lent 6 1792 12 0) (11 ∷ [])
    ∷ on_call (tile_lent 6 768 28 0) (11 ∷ [])
    ∷ on_call (tile_lent 6 768 12 4294967295) (12 ∷ [])
    -- the axes: a part at the limit and beyond, right turned round, up along forward, all of it zero; 9 and 10 before 14, 14 before 11 and 12
    ∷ on_call (turned_call (with_right (at (pos 100))) scene_s origin 4 4 4) []
    ∷ on_call (turned_call (with_right (at (pos 101))) scene_s origin 4 4 4) (14 ∷ [])
    ∷ on_call (turned_call (with_up (vec (neg_ℤ (pos 101)) (pos 0) (pos 1))) scene_s origin 4 4 4) (14 ∷ [])
    ∷ on_call (turned_call (with_right (at (negsuc 0))) scene_s origin 4 4 4) (14 ∷ [])
    ∷ on_call (turned_call (with_up level_axes.forward) scene_s origin 4 4 4) (14 ∷ [])
    ∷ on_call (turned_call (record { right = origin; forward = origin; up = origin }) scene_s origin 4 4 4) (14 ∷ [])
    ∷ on_call (turned_call (with_right origin) (like_s plane_s none 1 5 4 off_plane) origin 4 4 4) (9 ∷ 14 ∷ [])
    ∷ on_call (turned_call (with_right (at (pos 101))) scene_s origin 4 4 0) (10 ∷ 14 ∷ [])
    ∷ on_call (lent_turned (with_right (at (pos 101))) 4 15 1025 1 1024 16 4294967295) (14 ∷ 11 ∷ 12 ∷ [])
    -- the buffers' lengths; 11 before 12
    ∷ on_call (lent 4 16 1025 1 1024 16 0) []
    ∷ on_call (lent 4 15 1025 1 1024 16 0) (11 ∷ [])
    ∷ on_call (lent 4 16 1024 1 1024 16 0) (11 ∷ [])
    ∷ on_call (lent 4 16 1025 0 1024 16 0) (11 ∷ [])
    ∷ on_call (lent 4 16 1025 2 1024 16 0) (11 ∷ [])
    ∷ on_call (lent 4 16 1025 1 1025 16 0) (11 ∷ [])
    ∷ on_call (lent 5 20 1025 1 1024 16 0) []
    ∷ on_call (lent 5 20 1025 1 1024 20 0) (11 ∷ [])
    ∷ on_call (lent 4 16 1025 1 1024 15 0) (11 ∷ [])
    ∷ on_call (lent 4 16 1025 1 1024 17 0) (11 ∷ [])
    ∷ on_call (lent 4 17 1025 1 1024 16 4294967295) (11 ∷ 12 ∷ [])
    -- the counter
    ∷ on_call (lent 4 16 1025 1 1024 16 4294967294) []
    ∷ on_call (lent 4 16 1025 1 1024 16 4294967295) (12 ∷ [])
    ∷ []

-- The questions that say no to each case are the ones named, and the answer is the first of them, or 0.
pub limits_of_the_questions :
    map (λ (c : Case). noes questions c.call) cases ≡ map (λ (c : Case). c.expected) cases
unfolding everything noes of_bits
limits_of_the_questions = refl

-- The answer is the first no, for every call.
pub answer_is_first_no : {A : Type 0} (qs : List (Question A)) (a : A) → answer qs a ≡ get_or (noes qs a) 0 0
unfolding answer noes
answer_is_first_no [] a = refl
answer_is_first_no {A} (q ∷ qs) a = go (q.test a) (answer_is_first_no qs a)
  where
    go : (b : Bool) → answer qs a ≡ get_or (noes qs a) 0 0
        → (elim b as (λ (x : Bool). ℕ) [ true ↦ answer qs a | false ↦ q.number ])
        ≡ get_or (cond b (noes qs a) (q.number ∷ noes qs a)) 0 0
    go true e = e
    go false e = refl
