-- The byte format of a scene, and what a scene's bytes say.
use Rattle.std.specs.Prelude.{true, false, cond, List, map, ℕ, zero, suc, ◌+◌, ◌*◌, ◌/◌, ltb, ℤ, pos, ◌-ℤ◌, length, get_or, take, drop}
use Rattle.model.specs.Lists.{range}
use Rattle.model.specs.Vector.{Vec, Plane, vec, origin}
use Rattle.model.specs.Patch.{Patch, numbered}
use Rattle.model.specs.Tree.{Tree, leaf, node, map_tree}

-- a byte by its place; one past the end reads 0
abbrev pub byte_at : List ℕ → ℕ → ℕ
byte_at bytes at = get_or bytes at 0

-- numbers of two and of four bytes: "Every field has its least significant byte first."
unfoldable pub u16_at : List ℕ → ℕ → ℕ
u16_at bytes at = byte_at bytes at + 256 * byte_at bytes (at + 1)

unfoldable pub u32_at : List ℕ → ℕ → ℕ
u32_at bytes at = u16_at bytes at + 65536 * u16_at bytes (at + 2)

-- "Signed fields (i16) are two's complement."
unfoldable pub signed16 : ℕ → ℤ
signed16 n = cond (ltb n 32768) (pos n) (pos n -ℤ pos 65536)

abbrev pub i16_at : List ℕ → ℕ → ℤ
i16_at bytes at = signed16 (u16_at bytes at)

-- three i16
unfoldable pub point_at : List ℕ → ℕ → Vec
point_at bytes at = vec (i16_at bytes at) (i16_at bytes (at + 2)) (i16_at bytes (at + 4))

-- a pair of the header: "u32 offset and length in bytes"
pub record Section : Type 0 where
  pub offset : ℕ
  pub size : ℕ

unfoldable pub section_at : List ℕ → ℕ → Section
section_at bytes at = record { offset = u32_at bytes at; size = u32_at bytes (at + 4) }

-- "Header, 32 bytes: u16 version, 1; u16 zero; u32 whole length; then three pairs of u32 offset and length in bytes, sorted by offset: nodes, patches, corners."
pub record Header : Type 0 where
  pub version : ℕ
  pub reserved : ℕ
  pub whole : ℕ
  pub node_section : Section
  pub patch_section : Section
  pub corner_section : Section

unfoldable pub header_of : List ℕ → Header
header_of bytes =
    record {
      version = u16_at bytes 0;
      reserved = u16_at bytes 2;
      whole = u32_at bytes 4;
      node_section = section_at bytes 8;
      patch_section = section_at bytes 16;
      corner_section = section_at bytes 24;
    }

-- "u16 version, 1"
abbrev pub scene_version : ℕ
scene_version = 1

abbrev pub header_size : ℕ
header_size = 32

-- the most nodes, patches and corners, and the highest panel number
abbrev pub most_nodes : ℕ
most_nodes = 1024

abbrev pub most_patches : ℕ
most_patches = 1024

abbrev pub most_corners : ℕ
most_corners = 4096

abbrev pub highest_panel : ℕ
highest_panel = 1024

-- bytes of a node, a patch and a corner
abbrev pub node_size : ℕ
node_size = 26

abbrev pub patch_size : ℕ
patch_size = 6

abbrev pub corner_size : ℕ
corner_size = 6

-- a run of records: the first one's number, and how many records it has
pub record Run : Type 0 where
  pub first : ℕ
  pub count : ℕ

-- "Node, 26 bytes: three points of three i16 each; u16 positive child; u16 negative child (65,535 means none); u16 first patch and u16 patch count."
pub record NodeRecord : Type 0 where
  pub plane : Plane
  pub positive : ℕ
  pub negative : ℕ
  pub patch_run : Run

abbrev pub no_child : ℕ
no_child = 65535

unfoldable pub node_at : List ℕ → ℕ → NodeRecord
node_at bytes at =
    record {
      plane = record { a = point_at bytes at; b = point_at bytes (at + 6); c = point_at bytes (at + 12) };
      positive = u16_at bytes (at + 18);
      negative = u16_at bytes (at + 20);
      patch_run = record { first = u16_at bytes (at + 22); count = u16_at bytes (at + 24) };
    }

-- "Patch, 6 bytes: u16 panel; u16 first corner; u16 corner count."
pub record PatchRecord : Type 0 where
  pub panel : ℕ
  pub corner_run : Run

unfoldable pub patch_at : List ℕ → ℕ → PatchRecord
patch_at bytes at =
    record {
      panel = u16_at bytes at;
      corner_run = record { first = u16_at bytes (at + 2); count = u16_at bytes (at + 4) };
    }

-- the records of a section: as many as fit into its length
unfoldable pub records_of : {A : Type 0} → (List ℕ → ℕ → A) → ℕ → List ℕ → Section → List A
records_of read step bytes section =
    map (λ (k : ℕ). read bytes (section.offset + step * k)) (range 0 (section.size / step))

-- What the bytes say. "Corner, 6 bytes: three i16."
pub record Scene : Type 0 where
  pub nodes : List NodeRecord
  pub patches : List PatchRecord
  pub corners : List Vec

unfoldable pub decode : List ℕ → Scene
decode bytes =
    record {
      nodes = records_of node_at node_size bytes (header_of bytes).node_section;
      patches = records_of patch_at patch_size bytes (header_of bytes).patch_section;
      corners = records_of point_at corner_size bytes (header_of bytes).corner_section;
    }

-- the part of a list that a run names
abbrev pub inRun {ℓ} : {A : Type ℓ} → Run → List A → List A
inRun r list = take r.count (drop r.first list)

-- the patch that a patch record names, with its corners in order
unfoldable pub patch_of : List Vec → PatchRecord → Patch
patch_of corners r = record { panel = r.panel; corners = inRun r.corner_run corners }

-- the scene's patches, by their number
unfoldable pub patch_table : Scene → List Patch
patch_table s = map (patch_of s.corners) s.patches

-- the patches of a scene's bytes
abbrev pub patches_in : List ℕ → List Patch
patches_in bytes = patch_table (decode bytes)

-- a patch by its number
unfoldable pub patch_numbered : Scene → ℕ → Patch
patch_numbered s k = numbered (patch_table s) k

-- what a number that no node has would read as: it is never read, and any value will do
unfoldable pub empty_node : NodeRecord
empty_node =
    record {
      plane = record { a = origin; b = origin; c = origin };
      positive = no_child;
      negative = no_child;
      patch_run = record { first = 0; count = 0 };
    }

-- The tree of patch numbers at and below node k. A child that is no node's number, as 65,535, is none. The first argument bounds the depth: as children
-- have higher numbers than their parents (question 5), the node count will do.
unfoldable pub tree_at : ℕ → List NodeRecord → ℕ → Tree ℕ
unfolding empty_node
tree_at zero nodes k = leaf
tree_at (suc depth) nodes k =
    elim (ltb k (length nodes)) [
      | true ↦
          let n : NodeRecord = get_or nodes k empty_node in
          node n.plane (range n.patch_run.first n.patch_run.count) (tree_at depth nodes n.positive)
          (tree_at depth nodes n.negative)
      | false ↦ leaf
    ]

-- "Node 0 is the root."
unfoldable pub number_tree : Scene → Tree ℕ
number_tree s = tree_at (length s.nodes) s.nodes 0

-- the tree of the patches themselves
unfoldable pub patch_tree : Scene → Tree Patch
patch_tree s = map_tree (patch_numbered s) (number_tree s)
