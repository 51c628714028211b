-- A scene that passed the questions which reading it stands on, and what its readers answer.
use Rattle.std.specs.Prelude.{◌≡◌, List, map, ℕ, ◌+◌, ◌≤◌, ◌<◌, T, length}
use Rattle.model.specs.Lists.{range}
use Rattle.model.specs.Tree.{Tree, node}
use Rattle.model.specs.Format.{decode, tree_at, patch_numbered}
use Rattle.model.specs.Questions.{coordinates_in_range, children_proper, runs_proper}
use Rattle.geometry.specs.Machine.{plane_of, Bounded}
use Rattle.format.specs.Machine.{run_of, node_of, patch_record_of}
use Rattle.format.specs.Layout.{LaidOut, RunsInside, node_number, patch_number, corner_number}
use Rattle.format.specs.declared.records.Run.{Run}
use Rattle.format.specs.declared.records.Node.{Node}
use Rattle.format.specs.declared.records.PatchRecord.{PatchRecord}
use Rattle.format.specs.declared.layout.Layout.{Layout}

-- a scene whose answers to questions 1, 2, 3, 5 and 6 are yes, with its layout
pub record Checked (bytes : List ℕ) (l : Layout) : Type 0 where
  pub laid : LaidOut bytes l
  pub inside : RunsInside bytes l
  pub coordinates : T (coordinates_in_range (decode bytes))
  pub children : T (children_proper (decode bytes))
  pub runs : T (runs_proper (decode bytes))

-- the patch numbers at and below node k: at 0 it is `number_tree`
abbrev pub tree_below : List ℕ → ℕ → Tree ℕ
tree_below bytes k = tree_at (length (decode bytes).nodes) (decode bytes).nodes k

pub record PointsBounded (r : Node) : Type 0 where
  pub a_bounded : Bounded 10000 r.a
  pub b_bounded : Bounded 10000 r.b
  pub c_bounded : Bounded 10000 r.c

-- the machine's node r is node k's own record; its children have higher numbers, and the tree below k is made of theirs
pub record NodeIs (bytes : List ℕ) (l : Layout) (k : ℕ) (r : Node) : Type 0 where
  pub value : node_of r ≡ node_number bytes k
  pub points : PointsBounded r
  pub positive_above : k < r.positive
  pub negative_above : k < r.negative
  pub run_inside : r.patches.first + r.patches.count ≤ l.patches
  pub tree :
      tree_below bytes k ≡
      node (plane_of r.a r.b r.c) (range r.patches.first r.patches.count)
      (tree_below bytes r.positive) (tree_below bytes r.negative)

-- the machine's run r is that of patch k's own record, and the patch has the 3 to 8 corners that it names
pub record CornersAre (bytes : List ℕ) (l : Layout) (k : ℕ) (r : Run) : Type 0 where
  pub value : run_of r ≡ (patch_number bytes l k).corner_run
  pub three : 3 ≤ r.count
  pub eight : r.count ≤ 8
  pub run_inside : r.first + r.count ≤ l.corners
  pub corners_are : (patch_numbered (decode bytes) k).corners ≡ map (corner_number bytes l) (range r.first r.count)

-- the machine's record r is patch k's own: its panel and its corner run
pub record PatchRecordIs (bytes : List ℕ) (l : Layout) (k : ℕ) (r : PatchRecord) : Type 0 where
  pub value : patch_record_of r ≡ patch_number bytes l k
  pub panel_is : r.panel ≡ (patch_numbered (decode bytes) k).panel
  pub corners : CornersAre bytes l k r.corners
