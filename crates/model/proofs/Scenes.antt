-- The scenes of document 01's stations, and of those of the requests.
use mathlib.Core.List.{List, [], ◌∷◌, ◌++◌}
use Prim.Native.Nat.{ℕ, ◌*◌}
use lib.ListN.{length}
use lib.IntN.{ℤ, pos, neg_ℤ}
use Rattle.model.specs.Vector.{Vec, Plane, vec, origin}
use Rattle.model.specs.View.{Window, Axes, Tile, Camera, level_axes, whole_tile}
use Rattle.model.specs.Format.{decode}
use Rattle.model.specs.Station.{Station, units}
use Rattle.model.specs.Call.{Call}
use Rattle.model.proofs.Encode.{NodeLine, PatchLine, scene_bytes}

-- the corners of an upright square before the eye: its distance forward and its half-width
abbrev pub square : ℤ → ℤ → List Vec
square y h = vec (neg_ℤ h) y (neg_ℤ h) ∷ vec h y (neg_ℤ h) ∷ vec h y h ∷ vec (neg_ℤ h) y h ∷ []

-- the plane of that square: the eye's side is the positive one
abbrev pub upright : ℤ → ℤ → Plane
upright y h = record { a = vec (neg_ℤ h) y (neg_ℤ h); b = vec h y (neg_ℤ h); c = vec h y h }

abbrev pub none : ℕ
none = 65535

abbrev pub node_line : Plane → ℕ → ℕ → ℕ → ℕ → NodeLine
node_line s p n f c = record { plane = s; positive = p; negative = n; first = f; count = c }

abbrev pub patch_line : ℕ → ℕ → ℕ → PatchLine
patch_line p f c = record { panel = p; first = f; count = c }

-- S, with any half-width
abbrev pub s_of_half_width : ℤ → List ℕ
s_of_half_width h =
    scene_bytes (node_line (upright (pos 100) h) none none 0 1 ∷ []) (patch_line 5 0 4 ∷ []) (square (pos 100) h)

-- "S: one node and patch, panel 5, corners (−50,100,−50), (50,100,−50), (50,100,50), (−50,100,50)"
abbrev pub scene_s : List ℕ
scene_s = s_of_half_width (pos 50)

-- "T: S behind panel 7 at forward 50, half-width 20": S's plane is the root, panel 7 lies on its positive side
abbrev pub scene_t : List ℕ
scene_t =
    scene_bytes
    (node_line (upright (pos 100) (pos 50)) 1 none 0 1 ∷ node_line (upright (pos 50) (pos 20)) none none 1 1 ∷ [])
    (patch_line 5 0 4 ∷ patch_line 7 4 4 ∷ [])
    (square (pos 100) (pos 50) ++ square (pos 50) (pos 20))

-- T less panel 5, under T's planes
abbrev pub scene_tless5 : List ℕ
scene_tless5 =
    scene_bytes
    (node_line (upright (pos 100) (pos 50)) 1 none 0 0 ∷ node_line (upright (pos 50) (pos 20)) none none 0 1 ∷ [])
    (patch_line 7 0 4 ∷ [])
    (square (pos 50) (pos 20))

-- T less panel 7, under another tree: the nearer plane is the root, S lies on its negative side
abbrev pub scene_tless7 : List ℕ
scene_tless7 =
    scene_bytes
    (node_line (upright (pos 50) (pos 20)) none 1 0 0 ∷ node_line (upright (pos 100) (pos 50)) none none 0 1 ∷ [])
    (patch_line 5 0 4 ∷ [])
    (square (pos 100) (pos 50))

-- "Panels 3 and 5 on one square in one node"
abbrev pub scene3and5 : List ℕ
scene3and5 =
    scene_bytes (node_line (upright (pos 100) (pos 50)) none none 0 2 ∷ [])
    (patch_line 3 0 4 ∷ patch_line 5 4 4 ∷ [])
    (square (pos 100) (pos 50) ++ square (pos 100) (pos 50))

-- the corners of an upright piece at forward 100
abbrev pub piece : ℤ → ℤ → ℤ → ℤ → List Vec
piece left right low high =
    vec left (pos 100) low ∷ vec right (pos 100) low ∷ vec right (pos 100) high ∷ vec left (pos 100) high ∷ []

-- four panels on one plane: 1 and 2 above, 3 and 4 below, the odd ones to the left
abbrev pub scene_quarters : List ℕ
scene_quarters =
    scene_bytes (node_line (upright (pos 100) (pos 100)) none none 0 4 ∷ [])
    (patch_line 1 0 4 ∷ patch_line 2 4 4 ∷ patch_line 3 8 4 ∷ patch_line 4 12 4 ∷ [])
    (piece (neg_ℤ (pos 100)) (pos 0) (pos 0) (pos 100)
    ++ (piece (pos 0) (pos 100) (pos 0) (pos 100)
    ++ (piece (neg_ℤ (pos 100)) (pos 0) (neg_ℤ (pos 100)) (pos 0)
    ++ piece (pos 0) (pos 100) (neg_ℤ (pos 100)) (pos 0))))

-- S's square twice
abbrev pub scene_twice : List ℕ
scene_twice =
    scene_bytes (node_line (upright (pos 100) (pos 50)) none none 0 2 ∷ [])
    (patch_line 5 0 4 ∷ patch_line 5 4 4 ∷ [])
    (square (pos 100) (pos 50) ++ square (pos 100) (pos 50))

-- two overlapping pieces of panel 3 and, on the same plane, panel 5 as a large square and a small one
abbrev pub scene_pieces : List ℕ
scene_pieces =
    scene_bytes (node_line (upright (pos 100) (pos 50)) none none 0 4 ∷ [])
    (patch_line 3 0 4 ∷ patch_line 3 4 4 ∷ patch_line 5 8 4 ∷ patch_line 5 12 4 ∷ [])
    (piece (neg_ℤ (pos 50)) (pos 0) (neg_ℤ (pos 50)) (pos 50)
    ++ (piece (neg_ℤ (pos 80)) (neg_ℤ (pos 20)) (neg_ℤ (pos 50)) (pos 50)
    ++ (square (pos 100) (pos 80)
    ++ square (pos 100) (pos 50))))

-- T with panel 5 for both squares, the nearer one of half-width 10: the farther piece stands first in the table
abbrev pub scene_near : List ℕ
scene_near =
    scene_bytes
    (node_line (upright (pos 100) (pos 50)) 1 none 0 1 ∷ node_line (upright (pos 50) (pos 10)) none none 1 1 ∷ [])
    (patch_line 5 0 4 ∷ patch_line 5 4 4 ∷ [])
    (square (pos 100) (pos 50) ++ square (pos 50) (pos 10))

-- "A scene of 32 bytes with no node is legal and shows nothing."
abbrev pub no_nodes : List ℕ
no_nodes = scene_bytes [] [] []

-- a panel to the right of the eye, upright and along the bore: seen only by a camera that turns
abbrev wall : Plane
wall =
    record {
      a = vec (pos 100) (neg_ℤ (pos 50)) (neg_ℤ (pos 50));
      b = vec (pos 100) (pos 50) (neg_ℤ (pos 50));
      c = vec (pos 100) (pos 50) (pos 50);
    }

abbrev pub scene_wall : List ℕ
scene_wall =
    scene_bytes (node_line wall none none 0 1 ∷ []) (patch_line 9 0 4 ∷ [])
    (wall.a ∷ wall.b ∷ wall.c ∷ vec (pos 100) (neg_ℤ (pos 50)) (pos 50) ∷ [])

-- one piece of panel 6, alone on the plane of its first three corners
abbrev alone : Vec → Vec → Vec → List Vec → List ℕ
alone a b c rest =
    scene_bytes (node_line (record { a = a; b = b; c = c }) none none 0 1 ∷ []) (patch_line 6 0 (length (a ∷ b ∷ c ∷ rest)) ∷ []) (a ∷ b ∷ c ∷ rest)

-- a triangle that goes from the middle of the picture to the right and down, more down than right and more right than down
abbrev pub scene_wedge : List ℕ
scene_wedge =
    alone (vec (pos 0) (pos 100) (pos 0)) (vec (pos 20) (pos 100) (neg_ℤ (pos 40))) (vec (pos 40) (pos 100) (neg_ℤ (pos 20))) []

-- a strip with its upper edge at the height of the eye
abbrev pub scene_strip : List ℕ
scene_strip =
    alone (vec (neg_ℤ (pos 30)) (pos 100) (neg_ℤ (pos 10))) (vec (pos 30) (pos 100) (neg_ℤ (pos 10))) (vec (pos 30) (pos 100) (pos 0))
    (vec (neg_ℤ (pos 30)) (pos 100) (pos 0) ∷ [])

-- an upright wall from the edge before the eye, at forward 100, to the right and to a distance forward there
abbrev open_wall : ℤ → List Vec
open_wall y =
    vec (pos 0) (pos 100) (neg_ℤ (pos 60)) ∷ vec (pos 100) y (neg_ℤ (pos 60)) ∷ vec (pos 100) y (pos 60) ∷ vec (pos 0) (pos 100) (pos 60) ∷ []

abbrev open_plane : ℤ → Plane
open_plane y = record { a = vec (pos 0) (pos 100) (neg_ℤ (pos 60)); b = vec (pos 100) y (neg_ℤ (pos 60)); c = vec (pos 100) y (pos 60) }

-- two such walls, which meet in that edge: panel 1 goes back from it, panel 9 comes forward
abbrev pub scene_walls : List ℕ
scene_walls =
    scene_bytes (node_line (open_plane (pos 150)) 1 none 0 1 ∷ node_line (open_plane (pos 80)) none none 1 1 ∷ [])
    (patch_line 1 0 4 ∷ patch_line 9 4 4 ∷ [])
    (open_wall (pos 150) ++ open_wall (pos 80))

-- a call with buffers of the right lengths and the counter at 0, from a station, seen by this camera
abbrev camera_call : Station → Camera → List ℕ → Call
camera_call s c bytes =
    let t : Tile = c.tile in
    record {
      scene = bytes;
      station = s;
      camera = c;
      lengths =
          record { picture = t.width * t.height; counts = 1025; patch_counts = length (decode bytes).patches; unlit = t.height * 256; lit = t.height * 4 };
      counter = 0;
    }

-- the same with these axes, the window drawn as one tile
abbrev pub station_call : Station → Axes → List ℕ → ℕ → ℕ → ℕ → Call
station_call s a bytes w h l =
    let window : Window = record { width = w; height = h; lens = l } in
    camera_call s (record { axes = a; window = window; tile = whole_tile window }) bytes

-- the same seen by a level camera at the origin, with this tile of its window
abbrev pub tile_call : List ℕ → Window → Tile → Call
tile_call bytes w t = camera_call (units origin) (record { axes = level_axes; window = w; tile = t }) bytes

-- the same from a station in units
abbrev pub turned_call : Axes → List ℕ → Vec → ℕ → ℕ → ℕ → Call
turned_call a bytes e = station_call (units e) a bytes

-- the same seen by a level camera
abbrev pub fitting_call : List ℕ → Vec → ℕ → ℕ → ℕ → Call
fitting_call = turned_call level_axes

-- "4 by 4, lens 4, eye (0,0,0)"
abbrev pub usual : List ℕ → Call
usual bytes = fitting_call bytes origin 4 4 4
