-- Scenes written as numbers, for the worked examples: their bytes, least significant first.
use mathlib.Core.List.{List, [], ◌∷◌, ◌++◌, map, flatten}
use Prim.Native.Nat.{ℕ, ◌+◌, ◌*◌, ◌-◌, ◌/◌, ◌%◌}
use lib.IntN.{ℤ, pos, negsuc}
use lib.ListN.{length}
use Rattle.model.specs.Vector.{Vec, Plane}

abbrev pub u16 : ℕ → List ℕ
u16 n = n % 256 ∷ n / 256 % 256 ∷ []

abbrev pub u32 : ℕ → List ℕ
u32 n = u16 (n % 65536) ++ u16 (n / 65536)

abbrev pub i16 : ℤ → List ℕ
i16 (pos n) = u16 n
i16 (negsuc n) = u16 (65535 - n)

abbrev pub point : Vec → List ℕ
point v = i16 v.x ++ i16 v.y ++ i16 v.z

-- the plane, the two children, and the patch run's first number and count
pub record NodeLine : Type 0 where
  pub plane : Plane
  pub positive : ℕ
  pub negative : ℕ
  pub first : ℕ
  pub count : ℕ

-- a patch record: panel, first corner and corner count
pub record PatchLine : Type 0 where
  pub panel : ℕ
  pub first : ℕ
  pub count : ℕ

abbrev pub node_bytes : NodeLine → List ℕ
node_bytes n =
    point n.plane.a ++ point n.plane.b ++ point n.plane.c ++ u16 n.positive ++ u16 n.negative
    ++ u16 n.first ++ u16 n.count

abbrev pub patch_bytes : PatchLine → List ℕ
patch_bytes p = u16 p.panel ++ u16 p.first ++ u16 p.count

-- the header's numbers, so that an example can spoil one of them
pub record HeaderLine : Type 0 where
  pub version : ℕ
  pub reserved : ℕ
  pub whole : ℕ
  pub start : ℕ
  pub node_size : ℕ
  pub patch_size : ℕ
  pub corner_size : ℕ

abbrev pub header_bytes : HeaderLine → List ℕ
header_bytes h =
    u16 h.version ++ u16 h.reserved ++ u32 h.whole
    ++ u32 h.start ++ u32 h.node_size
    ++ u32 (h.start + h.node_size) ++ u32 h.patch_size
    ++ u32 (h.start + h.node_size + h.patch_size) ++ u32 h.corner_size

abbrev pub body_bytes : List NodeLine → List PatchLine → List Vec → List ℕ
unfolding flatten
body_bytes ns ps cs = flatten (map node_bytes ns) ++ flatten (map patch_bytes ps) ++ flatten (map point cs)

-- the right header for these records
abbrev pub header_for : List NodeLine → List PatchLine → List Vec → HeaderLine
header_for ns ps cs =
    record {
      version = 1;
      reserved = 0;
      whole = 32 + 26 * length ns + 6 * length ps + 6 * length cs;
      start = 32;
      node_size = 26 * length ns;
      patch_size = 6 * length ps;
      corner_size = 6 * length cs;
    }

abbrev pub scene_bytes : List NodeLine → List PatchLine → List Vec → List ℕ
unfolding flatten
scene_bytes ns ps cs = header_bytes (header_for ns ps cs) ++ body_bytes ns ps cs
