-- The gate, question by question, on any byte string and any call.
use Rattle.std.specs.Prelude.{Bool, true, false, not, ◌&&◌, ◌||◌, List, [], ◌∷◌, ◌++◌, map, ℕ, suc, ◌+◌, ◌*◌, ◌-◌, ◌/◌, ◌%◌, eqb, leb, ltb, ℤ, pos, nat_abs, length}
use Rattle.std.proofs.Math.Option.{Option, none, some}
use Rattle.std.specs.Int.Signed.{lt_z}
use Rattle.model.specs.Lists.{every, any, range, occurrences}
use Rattle.model.specs.Vector.{Vec, Plane, dot, cross, plane_normal, is_zero}
use Rattle.model.specs.Patch.{Patch, corners_counted, flat, strictly_convex}
use Rattle.model.specs.Tree.{divides}
use Rattle.model.specs.Format.{Header, Section, Run, NodeRecord, PatchRecord, Scene, header_of, decode, scene_version, header_size, node_size, patch_size, corner_size, most_nodes, most_patches, most_corners, highest_panel, no_child, inRun, patch_table, patch_tree}
use Rattle.model.specs.View.{Window, Axes, Tile, Camera, View}
use Rattle.model.specs.Station.{Station, units, metres, whole_units}
use Rattle.model.specs.Lent.{Lengths}
use Rattle.model.specs.Call.{Call, call_view}
use Rattle.model.specs.Row.{row_length}
use Rattle.model.specs.Map.{row_words}
use Rattle.model.specs.Picture.{count_entries}

-- a question has its number and its test
pub record Question (A : Type 0) : Type 0 where
  pub number : ℕ
  pub test : A → Bool

-- "Each question is put to the whole scene before the next. The first no gives its number": 0 is "done"
unfoldable pub answer : {A : Type 0} → List (Question A) → A → ℕ
answer [] a = 0
answer (q ∷ qs) a = elim (q.test a) [ true ↦ answer qs a | false ↦ q.number ]

-- a number from low to high
abbrev pub within : ℕ → ℕ → ℕ → Bool
within low high n = leb low n && leb n high

-- the longest scene: 32 + 1,024 × 26 + 1,024 × 6 + 4,096 × 6 bytes
abbrev pub longest_scene : ℕ
longest_scene = 57376

-- 1. "Is the scene 32 to 57,376 bytes long, with version 1, the zero field 0 and the whole length equal to the byte count?"
unfoldable pub has_header : List ℕ → Bool
has_header bytes =
    within header_size longest_scene (length bytes)
    && eqb (header_of bytes).version scene_version
    && eqb (header_of bytes).reserved 0
    && eqb (header_of bytes).whole (length bytes)

abbrev pub section_end : Section → ℕ
section_end s = s.offset + s.size

-- the section begins at a place and holds whole records, not more than a limit
unfoldable pub is_section : ℕ → ℕ → ℕ → Section → Bool
is_section start step most s = eqb s.offset start && eqb (s.size % step) 0 && leb (s.size / step) most

-- 2. "Does the first pair begin at 32, each next where the one before ended, the last end at the whole length, the lengths being multiples of 26, 6 and 6, with
-- at most 1,024 nodes, 1,024 patches and 4,096 corners?"
unfoldable pub has_sections : List ℕ → Bool
has_sections bytes =
    let h : Header = header_of bytes in
    is_section header_size node_size most_nodes h.node_section
    && is_section (section_end h.node_section) patch_size most_patches h.patch_section
    && is_section (section_end h.patch_section) corner_size most_corners h.corner_section
    && eqb (section_end h.corner_section) h.whole

-- a number from −n to n
abbrev pub up_to : ℕ → ℤ → Bool
up_to n z = leb (nat_abs z) n

-- each part of a vector is from −n to n
abbrev pub parts_up_to : ℕ → Vec → Bool
parts_up_to n v = up_to n v.x && up_to n v.y && up_to n v.z

-- each coordinate of a point is from −10,000 to 10,000
abbrev pub point_in_range : Vec → Bool
point_in_range v = parts_up_to 10000 v

abbrev pub plane_in_range : Plane → Bool
plane_in_range s = point_in_range s.a && point_in_range s.b && point_in_range s.c

-- 3. "Is every coordinate from −10,000 to 10,000?"
unfoldable pub coordinates_in_range : Scene → Bool
coordinates_in_range s =
    every (λ (n : NodeRecord). plane_in_range n.plane) s.nodes && every point_in_range s.corners

-- the points are "off one line (cross product not zero)"
unfoldable pub off_one_line : Plane → Bool
off_one_line s =
    let n : Vec = plane_normal s in
    not (is_zero n.x && is_zero n.y && is_zero n.z)

-- 4. "Are each node's three points off one line (cross product not zero)?"
unfoldable pub planes_proper : Scene → Bool
planes_proper s = every (λ (n : NodeRecord). off_one_line n.plane) s.nodes

-- "each child 65,535, or above its parent's own number and below the node count"
abbrev pub proper_child : ℕ → ℕ → ℕ → Bool
proper_child node_count parent child = eqb child no_child || (ltb parent child && ltb child node_count)

-- the test at each node, which is told its number: the first one's is k
unfoldable pub every_node : (ℕ → NodeRecord → Bool) → ℕ → List NodeRecord → Bool
every_node test k [] = true
every_node test k (n ∷ ns) = test k n && every_node test (suc k) ns

-- both child fields of every node, 65,535 among them
unfoldable pub children : List NodeRecord → List ℕ
children [] = []
children (n ∷ ns) = n.positive ∷ n.negative ∷ children ns

-- 5. "Is each child 65,535, or above its parent's own number and below the node count, and is each node but 0 named exactly once?"
unfoldable pub children_proper : Scene → Bool
children_proper s =
    let node_count : ℕ = length s.nodes in
    every_node
    (λ (k : ℕ) (n : NodeRecord).
    proper_child node_count k n.positive && proper_child node_count k n.negative) 0 s.nodes
    && every (λ (k : ℕ). eqb (occurrences k (children s.nodes)) 1) (range 1 (node_count - 1))

-- the runs "follow each other" from a place on and end at the end. "An empty run still names the place where it would begin."
unfoldable pub runs_follow : ℕ → ℕ → List Run → Bool
runs_follow start end [] = eqb start end
runs_follow start end (r ∷ rs) = eqb r.first start && runs_follow (start + r.count) end rs

-- "Do the nodes' patch runs follow each other from 0 and use every patch"
unfoldable pub patch_runs_follow : Scene → Bool
patch_runs_follow s = runs_follow 0 (length s.patches) (map (λ (n : NodeRecord). n.patch_run) s.nodes)

-- "do the patches' corner runs do so with the corners, and has each patch 3 to 8 corners?"
unfoldable pub corner_runs_follow : Scene → Bool
corner_runs_follow s =
    runs_follow 0 (length s.corners) (map (λ (p : PatchRecord). p.corner_run) s.patches)
    && every corners_counted (patch_table s)

-- 6. "Do the nodes' patch runs follow each other from 0 and use every patch, do the patches' corner runs do so with the corners, and has each patch 3 to 8
-- corners?"
unfoldable pub runs_proper : Scene → Bool
runs_proper s = patch_runs_follow s && corner_runs_follow s

-- "Is each panel 1 to 1,024"
unfoldable pub panels_in_range : Scene → Bool
panels_in_range s = every (λ (p : PatchRecord). within 1 highest_panel p.panel) s.patches

-- no number is above the next: equal ones are not falling
unfoldable pub never_falling : List ℕ → Bool
never_falling [] = true
never_falling (m ∷ []) = true
never_falling (m ∷ n ∷ ns) = leb m n && never_falling (n ∷ ns)

-- "never falling within a node's run"
unfoldable pub panels_never_fall : Scene → Bool
panels_never_fall s =
    every
    (λ (n : NodeRecord).
    never_falling (map (λ (p : PatchRecord). p.panel) (inRun n.patch_run s.patches))) s.nodes

-- 7. "Is each panel 1 to 1,024, never falling within a node's run?"
unfoldable pub panels_proper : Scene → Bool
panels_proper s = panels_in_range s && panels_never_fall s

-- 8. "Is each patch flat and strictly convex?"
unfoldable pub patches_proper : Scene → Bool
patches_proper s = every (λ (p : Patch). flat p && strictly_convex p) (patch_table s)

-- 9. "Has each patch of a node all corners on the node's plane, each patch in or below its positive child no corner on the negative side and at least one on the positive, and the
-- mirror of this in or below the negative child?" Said of the scene's tree: `divides` in Tree.
unfoldable pub planes_divide : Scene → Bool
planes_divide s = divides (patch_tree s)

-- the questions on a scene
unfoldable pub scene_questions : List (Question (List ℕ))
scene_questions =
    record { number = 1; test = has_header }
    ∷ record { number = 2; test = has_sections }
    ∷ record { number = 3; test = λ bytes. coordinates_in_range (decode bytes) }
    ∷ record { number = 4; test = λ bytes. planes_proper (decode bytes) }
    ∷ record { number = 5; test = λ bytes. children_proper (decode bytes) }
    ∷ record { number = 6; test = λ bytes. runs_proper (decode bytes) }
    ∷ record { number = 7; test = λ bytes. panels_proper (decode bytes) }
    ∷ record { number = 8; test = λ bytes. patches_proper (decode bytes) }
    ∷ record { number = 9; test = λ bytes. planes_divide (decode bytes) }
    ∷ []

-- the number of the first no among questions 1 to 9, and 0 where none of them says no
unfoldable pub scene_answer : List ℕ → ℕ
scene_answer bytes = answer scene_questions bytes

-- a whole number that is there, and from −10,000 to 10,000
abbrev pub whole_in_range : Option ℤ → Bool
whole_in_range none = false
whole_in_range (some n) = up_to 10000 n

-- 15. Has each double of the station a whole number of units, from −10,000 to 10,000? Document 02, F-7: "15 when a double is not finite or its whole number leaves ±10,000". A
-- station in units has no double; its range is a part of 10.
unfoldable pub station_in_range : Station → Bool
station_in_range (units eye) = true
station_in_range (metres x y z) =
    whole_in_range (whole_units x) && whole_in_range (whole_units y) && whole_in_range (whole_units z)

-- "up to 1,024 by 512 cells" (document 02, F-9); "lens 1 to 4,096"
abbrev pub window_in_range : Window → Bool
window_in_range w = within 1 1024 w.width && within 1 512 w.height && within 1 4096 w.lens

-- Document 02, F-9, question 10 "refuses a tile that is empty, above 256 by 128 or not wholly inside" the window. The sums are of whole numbers and do not wrap.
abbrev pub tile_in_window : Window → Tile → Bool
tile_in_window w t =
    within 1 256 t.width
    && within 1 128 t.height
    && leb (t.left + t.width) w.width
    && leb (t.top + t.height) w.height

-- 10. Document 01: "Is the eye within ±10,000, width 1 to 256, height 1 to 128, lens 1 to 4,096?" Since F-9 the window has the wider limits above, and 256 by 128 are the tile's: "Question 10 allows the larger window and
-- refuses a tile that is empty, above 256 by 128 or not wholly inside it". Of a window that is drawn as one tile it asks what document 01 asks (`one_tile_lem` in proofs/Views).
unfoldable pub view_in_range : View → Bool
view_in_range v =
    point_in_range v.eye && window_in_range v.camera.window && tile_in_window v.camera.window v.camera.tile

-- 14. Is each part from −100 to 100, and right · (forward × up) above 0? Document 02, F-1: "each part from −100 to 100"; "14 when a part is out of range or
-- right · (forward × up) is not above 0".
unfoldable pub axes_proper : Axes → Bool
axes_proper a =
    parts_up_to 100 a.right
    && parts_up_to 100 a.forward
    && parts_up_to 100 a.up
    && lt_z (pos 0) (dot a.right (cross a.forward a.up))

-- 11. "Has the picture (u16) width × height cells, the counts (u32) 1,025, the unlit lists (u16) height × 256?" Document 02, F-2: "A further lent table (u32, one
-- entry a patch)"; "Question 11 covers the new table's length." F-8: "four u64 words a row"; "Question 11 covers the map's length." F-9: "buffer lengths follow the tile." `patches` is the scene's patch count; the scene has passed 1 to 9 by then.
unfoldable pub lengths_fit : Camera → ℕ → Lengths → Bool
lengths_fit c patches l =
    eqb l.picture (c.tile.width * c.tile.height)
    && eqb l.counts count_entries
    && eqb l.patch_counts patches
    && eqb l.unlit (c.tile.height * row_length)
    && eqb l.lit (c.tile.height * row_words)

-- 12. "Is the station counter below 4,294,967,295?" It is asked of every tile, whether or not the counter would rise with it.
unfoldable pub counter_below_end : ℕ → Bool
counter_below_end n = ltb n 4294967295

-- The questions on the call, in the order of asking. Document 02, F-7: 15 is "put just before question 10"; F-1: 14 is "put right after question 10".
unfoldable pub call_questions : List (Question Call)
call_questions =
    record { number = 15; test = λ c. station_in_range c.station }
    ∷ record { number = 10; test = λ c. view_in_range (call_view c) }
    ∷ record { number = 14; test = λ c. axes_proper c.camera.axes }
    ∷ record { number = 11; test = λ c. lengths_fit c.camera (length (decode c.scene).patches) c.lengths }
    ∷ record { number = 12; test = λ c. counter_below_end c.counter }
    ∷ []

-- a question on a scene, put to a call
abbrev pub on_scene : Question (List ℕ) → Question Call
on_scene q = record { number = q.number; test = λ c. q.test c.scene }

unfoldable pub questions : List (Question Call)
questions = map on_scene scene_questions ++ call_questions

-- Numbers that questions had once. Document 02, F-6: "so question 13 is struck and its number is never used again." Each list of questions that gives answers is held
-- to it, as `none_struck` holds `questions`, and with it `scene_questions`.
abbrev pub struck : List ℕ
struck = 13 ∷ []

abbrev pub is_struck : ℕ → Bool
is_struck n = any (eqb n) struck

-- "The result is "done" or this number": 0, or the number of the first no
unfoldable pub survey_answer : Call → ℕ
survey_answer c = answer questions c
