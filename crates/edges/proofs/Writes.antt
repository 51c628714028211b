-- A patch's edge functions, kept one after the other.
use mathlib.Core.Path.{◌≡◌, ap, sym, subst, ◌∙◌}
use mathlib.Core.Bool.{Bool, ◌&&◌}
use mathlib.Core.List.{List, map}
use Prim.Native.Nat.{ℕ, ◌+◌, ◌≤◌, ◌<◌}
use native.Mathlib.Omega.{arith}
use lib.ListN.{length}
use borrow.Author.Count.{below_none, below_more}
use Rattle.model.specs.Lists.{range}
use Rattle.model.specs.Vector.{Vec}
use Rattle.model.specs.Patch.{Patch}
use Rattle.geometry.specs.declared.Raster.{Raster}
use Rattle.geometry.specs.declared.EdgeFunction.{EdgeFunction}
use Rattle.geometry.specs.Machine.{vec_of}
use Rattle.geometry.specs.Raster.{seen_by, FunctionIs, FunctionBounded}
use Rattle.spans.specs.declared.Span.{Span}
use Rattle.spans.specs.Span.{covers}
use Rattle.spans.specs.Row.{all_above}
use Rattle.slopes.specs.declared.Sloped.{Sloped}
use Rattle.slopes.specs.Sloped.{OneAsked, KeepsOne}
use Rattle.slopes.proofs.Keeping.{KeptUpTo, KeepingAsked, keeping_starts, one_asked, keeping_goes}
use Rattle.edges.specs.declared.Sight.{Sight}
use Rattle.edges.specs.Edges.{EdgesKept}
use Rattle.edges.proofs.Places.{edge_numbered}
use Rattle.edges.proofs.Meeting.{met_seen}

pub function_by : (r : Raster) {u v : Vec} {f : EdgeFunction} → FunctionIs (seen_by r u) f → u ≡ v → FunctionIs (seen_by r v) f
function_by r h e = record { value = h.value ∙ ap (seen_by r) e; bounded = h.bounded }

-- what the raster sees of edge m
abbrev pub seen : Sight → Patch → ℕ → EdgeFunction
seen s p m = seen_by s.raster (edge_numbered (vec_of s.eye) p m)

-- the first i edges are gone through
pub record Writing (s : Sight) (p : Patch) (count : ℕ) (reach : Span) (table : List EdgeFunction) (r : Sloped) (i : ℕ) : Type 0 where
  pub kept : KeptUpTo (seen s p) count reach table r.reach r.count i
  pub bounds : (m : ℕ) → m < i → FunctionBounded (seen s p m)

module _ {count : ℕ} {reach : Span} (asked : KeepingAsked count reach) {s : Sight} {p : Patch} where
  pub writing_none : {table : List EdgeFunction} → 8 ≤ length table → Writing s p count reach table (record { count = 0; reach = reach }) 0
  writing_none room = record { kept = keeping_starts asked room; bounds = below_none _ }

  module _ {table : List EdgeFunction} {r : Sloped} {i : ℕ} (w : Writing s p count reach table r i) (h : i < count) {f : EdgeFunction} (is : FunctionIs (seen s p i) f) where
    bounded : FunctionBounded (seen s p i)
    bounded = subst FunctionBounded is.value is.bounded

    pub edge_asked : OneAsked f r table
    edge_asked = subst (λ (g : EdgeFunction). OneAsked g r table) (sym is.value) (one_asked asked w.kept h bounded)

    pub writing_more : {table' : List EdgeFunction} {r' : Sloped} → KeepsOne f r table table' r' → Writing s p count reach table' r' (i + 1)
    writing_more {table'} {r'} one =
        record {
          kept = keeping_goes asked w.kept h bounded (subst (λ (g : EdgeFunction). KeepsOne g r table table' r') is.value one);
          bounds = below_more _ i w.bounds bounded;
        }

  pub writing_all :
      {table : List EdgeFunction} {r : Sloped} {i : ℕ} → Writing s p count reach table r i → length p.corners ≡ count → 0 < count → count ≤ i → EdgesKept s p reach table r
  writing_all {table} {r} {i} w c some h =
      let e : i ≡ count = omega (arith, w.kept.most) in
      record {
        few = omega (arith, w.kept.fewer, w.kept.most, asked.eight);
        inside = omega (arith, w.kept.fewer, w.kept.most, w.kept.room);
        run = w.kept.run;
        shaped = w.kept.shaped;
        same = λ j k.
            w.kept.same j k
            ∙ ap (λ (n : ℕ). covers reach j && all_above (map (seen s p) (range 0 n)) k j) e
            ∙ ap (λ (t : Bool). covers reach j && t) (met_seen s p count c some (λ m b. w.bounds m (omega arith)) k j);
      }
