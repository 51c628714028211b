-- Sight lines off the edges and along them, from the scenes' bytes.
use mathlib.Core.Path.{◌≡◌, refl}
use mathlib.Core.Bool.{Bool, not}
use mathlib.Core.List.Memᴰ
use mathlib.Core.List.{List}
use Prim.Native.Nat.{ℕ, ◌<◌, zero-le}
use lib.Dec.{T, T_not}
use Rattle.model.specs.Lists.{every, range}
use Rattle.model.specs.Vector.{origin, is_zero}
use Rattle.model.specs.Patch.{Patch, Edge, edges}
use Rattle.model.specs.Ray.{edge_vector, edge_number, closest}
use Rattle.model.specs.View.{Window, View, level_axes, whole_tile, direction}
use Rattle.model.specs.Beside.{cell_line}
use Rattle.model.specs.Format.{decode, patch_table}
use Rattle.model.specs.Accepted.{AcceptedScene}
use Rattle.model.proofs.Tests.{every_true}
use Rattle.model.proofs.Ranges.{in_range}
use Rattle.model.proofs.Patches.{is_zero_lem}
use Rattle.model.proofs.Computing.{everything}
use Rattle.model.proofs.Scenes.{scene_s, scene_quarters}
use Rattle.walk.proofs.OffEdges.{RunsOffEdges, off_the_edges}

-- a level camera at the origin with lens 4, as many cells wide as high
abbrev level : ℕ → View
level n =
    let w : Window = record { width = n; height = n; lens = 4 } in
    record { eye = origin; camera = record { axes = level_axes; window = w; tile = whole_tile w } }

-- the tests of all edges
abbrev off_edges : List ℕ → View → ℕ → ℕ → Bool
off_edges bytes v i j =
    every (λ (p : Patch). every (λ (e : Edge). not (is_zero (edge_number (direction v.camera i j) (edge_vector v.eye e)))) (edges p.corners))
    (patch_table (decode bytes))

off_edges_says : (bytes : List ℕ) (v : View) (i j : ℕ) → T (off_edges bytes v i j) → RunsOffEdges bytes v i j
off_edges_says bytes v i j t p m e l z =
    T_not (is_zero (edge_number (direction v.camera i j) (edge_vector v.eye e)))
    ((every_true _ (edges p.corners)).0 ((every_true _ (patch_table (decode bytes))).0 t p m) e l)
    ((is_zero_lem _).1 z)

-- In S 4 by 4 every sight line runs off the edges ..
pub off_the_edges_worked : (i j : ℕ) → i < 4 → j < 4 → RunsOffEdges scene_s (level 4) i j
unfolding everything
off_the_edges_worked i j h k =
    off_edges_says scene_s (level 4) i j
    ((every_true (λ (i : ℕ). off_edges scene_s (level 4) i j) (range 0 4)).0
    ((every_true (λ (j : ℕ). every (λ (i : ℕ). off_edges scene_s (level 4) i j) (range 0 4)) (range 0 4)).0 tt j ((in_range 0 4 j).1 (zero-le, k)))
    i ((in_range 0 4 i).1 (zero-le, h)))

-- .. so each cell holds what its sight line itself shows.
pub sight_lines_of_s :
    (i j : ℕ) → i < 4 → j < 4 →
    closest origin (cell_line (level 4).camera i j) (patch_table (decode scene_s)) ≡ closest origin (direction (level 4).camera i j) (patch_table (decode scene_s))
unfolding everything
sight_lines_of_s i j h k = off_the_edges accepted_s (level 4) tt tt i j (off_the_edges_worked i j h k)
  where
    accepted_s : AcceptedScene scene_s
    accepted_s =
        record { header = tt; sections = tt; coordinates = tt; planes = tt; children = tt; runs = tt; panels = tt; patches = tt; divided = tt }

-- The middle one of 3 by 3 runs along edges of the four quarters, and itself shows nothing: the cell holds panel 4.
pub middle_on_edges :
    (RunsOffEdges scene_quarters (level 3) 1 1 → ⊥)
    × (closest origin (direction (level 3).camera 1 1) (patch_table (decode scene_quarters)) ≡ 0)
    × (closest origin (cell_line (level 3).camera 1 1) (patch_table (decode scene_quarters)) ≡ 4)
unfolding everything
middle_on_edges = (λ off. off _ (Memᴰ.head refl) _ (Memᴰ.head refl) refl, refl, refl)
