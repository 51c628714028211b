-- A patch's edge functions, and where they stand.
use Rattle.std.specs.Prelude.{◌≡◌, cond, ◌&&◌, List, map, ℕ, suc, ◌≤◌, ◌<◌, ltb, ℤ, length, take}
use Rattle.integer.specs.Magnitude.{Within, sign_of}
use Rattle.model.specs.Vector.{Vec, times}
use Rattle.model.specs.Patch.{Patch, Edge, edges}
use Rattle.model.specs.Ray.{eye_product, edge_vector, met}
use Rattle.geometry.specs.declared.Vector.{Vector}
use Rattle.geometry.specs.declared.EdgeFunction.{EdgeFunction}
use Rattle.geometry.specs.Machine.{vec_of, Bounded}
use Rattle.geometry.specs.Raster.{RasterBounded, line_at}
use Rattle.format.specs.declared.layout.Layout.{Layout}
use Rattle.spans.specs.declared.Span.{Span}
use Rattle.spans.specs.Span.{covers, Shaped}
use Rattle.spans.specs.Row.{FunctionRun, all_above}
use Rattle.slopes.specs.declared.Sloped.{Sloped}
use Rattle.edges.specs.declared.Sight.{Sight}

pub record SightBounded (s : Sight) : Type 0 where
  pub eye_bounded : Bounded 10000 s.eye
  pub raster_bounded : RasterBounded s.raster

-- the sign of a patch's eye product
pub record EyeSign (eye : Vec) (p : Patch) (sign : ℤ) : Type 0 where
  pub is : sign ≡ sign_of (eye_product eye p)

-- A patch's edge vectors, each times the sign of the eye product: a ray passes an edge on the patch's side where its product with this is above 0.
unfoldable pub oriented_edges : Vec → Patch → List Vec
oriented_edges eye p = map (λ (e : Edge). times (sign_of (eye_product eye p)) (edge_vector eye e)) (edges p.corners)

-- the corner after corner k of n
abbrev pub next_corner : ℕ → ℕ → ℕ
next_corner n k = cond (ltb (suc k) n) (suc k) 0

-- what working out the edge functions of patch k for some rows asks: a table with room for eight
pub record EdgesAsked (l : Layout) (k : ℕ) (s : Sight) (reach : Span) (table : List EdgeFunction) : Type 0 where
  pub number : k < l.patches
  pub sight : SightBounded s
  pub shaped : Shaped 1024 reach
  pub room : 8 ≤ length table

-- what one edge vector asks: its corners, the eye and the sign
pub record EdgeAsked (eye v w : Vector) (sign : ℤ) : Type 0 where
  pub eye_bounded : Bounded 10000 eye
  pub v_bounded : Bounded 10000 v
  pub w_bounded : Bounded 10000 w
  pub sign_within : Within 1 sign

-- In the rows of a reach the line just beside a ray meets the patch just where, in the rows that are left, the first functions of the table are above 0. Which functions
-- these are, how many up to eight, and which rows are left is free.
pub record EdgesKept (s : Sight) (p : Patch) (reach : Span) (table : List EdgeFunction) (r : Sloped) : Type 0 where
  pub few : r.count ≤ 8
  pub inside : r.count ≤ length table
  pub run : FunctionRun (take r.count table)
  pub shaped : Shaped reach.end r.reach
  pub same :
      (j i : ℕ) →
      (covers r.reach j && all_above (take r.count table) i j) ≡ (covers reach j && met (vec_of s.eye) (line_at s.raster i j) p)
