-- Where the records of a scene lie, once questions 1 and 2 are answered yes.
use Rattle.std.specs.Prelude.{◌≡◌, List, map, ℕ, ◌+◌, ◌*◌, ◌≤◌, ◌<◌, length}
use Rattle.model.specs.Lists.{range}
use Rattle.model.specs.Vector.{Vec}
use Rattle.model.specs.Format.{Run, NodeRecord, PatchRecord, header_size, node_size, patch_size, corner_size, most_nodes, most_patches, most_corners, point_at, node_at, patch_at, decode}
use Rattle.format.specs.declared.layout.Layout.{Layout}

-- where the patches begin, and where the corners begin
abbrev pub patches_start : Layout → ℕ
patches_start l = header_size + node_size * l.nodes

abbrev pub corners_start : Layout → ℕ
corners_start l = patches_start l + l.patch_size * l.patches

-- the records by their numbers
abbrev pub node_number : List ℕ → ℕ → NodeRecord
node_number bytes k = node_at bytes (header_size + node_size * k)

abbrev pub patch_number : List ℕ → Layout → ℕ → PatchRecord
patch_number bytes l k = patch_at bytes (patches_start l + l.patch_size * k)

abbrev pub corner_number : List ℕ → Layout → ℕ → Vec
corner_number bytes l k = point_at bytes (corners_start l + corner_size * k)

-- the byte string has the header and these tables and nothing else; they are what it decodes to, by the patch records of its version
pub record LaidOut (bytes : List ℕ) (l : Layout) : Type 0 where
  pub sized : l.patch_size ≡ patch_size
  pub whole : length bytes ≡ corners_start l + corner_size * l.corners
  pub few_nodes : l.nodes ≤ most_nodes
  pub few_patches : l.patches ≤ most_patches
  pub few_corners : l.corners ≤ most_corners
  pub nodes : (decode bytes).nodes ≡ map (node_number bytes) (range 0 l.nodes)
  pub patches : (decode bytes).patches ≡ map (patch_number bytes l) (range 0 l.patches)
  pub corners : (decode bytes).corners ≡ map (corner_number bytes l) (range 0 l.corners)

-- a run names records of a table of n
pub record Inside (n : ℕ) (r : Run) : Type 0 where
  pub inside : r.first + r.count ≤ n

-- what question 6 tells of the runs
pub record RunsInside (bytes : List ℕ) (l : Layout) : Type 0 where
  pub patches : (k : ℕ) → k < l.nodes → Inside l.patches (node_number bytes k).patch_run
  pub corners : (k : ℕ) → k < l.patches → Inside l.corners (patch_number bytes l k).corner_run
  pub three : (k : ℕ) → k < l.patches → 3 ≤ (patch_number bytes l k).corner_run.count
  pub eight : (k : ℕ) → k < l.patches → (patch_number bytes l k).corner_run.count ≤ 8
