-- A patch's edges, one after the other: the corner that one edge goes to is the one that the next comes from.
use mathlib.Core.Path.{◌≡◌, sym, ◌∙◌, ap}
use mathlib.Core.List.{List}
use Prim.Native.Nat.{ℕ, ◌+◌, ◌<◌}
use native.Mathlib.Omega.{arith}
use lib.IntN.{ℤ}
use lib.ListN.{get_or}
use Rattle.model.specs.Vector.{Vec, origin, minus, cross, times}
use Rattle.model.specs.Patch.{Patch}
use Rattle.geometry.specs.declared.EdgeFunction.{EdgeFunction}
use Rattle.geometry.specs.declared.Vector.{Vector}
use Rattle.geometry.specs.Machine.{vec_of}
use Rattle.geometry.specs.Raster.{seen_by, FunctionIs}
use Rattle.format.specs.declared.layout.Layout.{Layout}
use Rattle.model.specs.Format.{decode, patch_numbered}
use Rattle.format.specs.declared.records.Run.{Run}
use Rattle.format.specs.Layout.{corner_number}
use Rattle.checked.specs.Checked.{CornersAre}
use Rattle.spans.specs.declared.Span.{Span}
use Rattle.slopes.specs.declared.Sloped.{Sloped}
use Rattle.slopes.proofs.Keeping.{KeepingAsked}
use Rattle.edges.specs.declared.Sight.{Sight}
use Rattle.edges.specs.Edges.{EyeSign, next_corner, EdgesAsked}
use Rattle.edges.proofs.Places.{edge_numbered, next_further, next_inside, edge_made}
use Rattle.edges.proofs.Runs.{run_count, run_corner}
use Rattle.edges.proofs.Writes.{function_by, seen, Writing}

-- while the edges are gone round: those before corner i are written, and corner i is at hand
pub record Going
    (bytes : List ℕ) (l : Layout) (s : Sight) (p : Patch) (first count : ℕ) (reach : Span) (table : List EdgeFunction) (r : Sloped) (from : Vector) (i : ℕ) : Type 0 where
  pub writing : Writing s p count reach table r i
  pub from_is : i < count → vec_of from ≡ corner_number bytes l (first + i)

pub goes_on :
    (bytes : List ℕ) (l : Layout) (first count i n : ℕ) {w : Vec} → n ≡ next_corner count i → w ≡ corner_number bytes l (first + n) → i + 1 < count →
    w ≡ corner_number bytes l (first + (i + 1))
goes_on bytes l first count i n e f h = f ∙ ap (λ (m : ℕ). corner_number bytes l (first + m)) (e ∙ sym (next_further count i h))

-- the edge's vector, from the corners that the machine reads
pub edge_of :
    (eye : Vec) {bytes : List ℕ} {l : Layout} {k : ℕ} {run : Run} (at : CornersAre bytes l k run) {sign : ℤ} {i n : ℕ} {v w : Vec} →
    EyeSign eye (patch_numbered (decode bytes) k) sign →
    i < run.count →
    v ≡ corner_number bytes l (run.first + i) →
    n ≡ next_corner run.count i →
    w ≡ corner_number bytes l (run.first + n) →
    times sign (cross (minus v eye) (minus w eye)) ≡ edge_numbered eye (patch_numbered (decode bytes) k) i
edge_of eye {bytes} {k = k} {run} at {i = i} {n} s b ev en ew =
    let counted = run_count at in
    let three = at.three in
    let below : n < run.count = omega (arith, en, next_inside run.count i b) in
    edge_made eye i s (omega arith) (omega arith) (ev ∙ run_corner at i b)
    (ew ∙ run_corner at n below ∙ ap (λ (m : ℕ). get_or (patch_numbered (decode bytes) k).corners m origin) (en ∙ ap (λ (c : ℕ). next_corner c i) (sym counted)))

-- what the raster sees of the edge, from what the machine computes
pub edge_seen :
    (s : Sight) {bytes : List ℕ} {l : Layout} {k : ℕ} {run : Run} (at : CornersAre bytes l k run) {sign : ℤ} {i n : ℕ} {v w edge : Vec} {f : EdgeFunction} →
    EyeSign (vec_of s.eye) (patch_numbered (decode bytes) k) sign →
    i < run.count →
    v ≡ corner_number bytes l (run.first + i) →
    n ≡ next_corner run.count i →
    w ≡ corner_number bytes l (run.first + n) →
    edge ≡ times sign (cross (minus v (vec_of s.eye)) (minus w (vec_of s.eye))) →
    FunctionIs (seen_by s.raster edge) f →
    FunctionIs (seen s (patch_numbered (decode bytes) k) i) f
edge_seen s at e b ev en ew is f = function_by s.raster f (is ∙ edge_of (vec_of s.eye) at e b ev en ew)

-- a patch has no more edges than are kept
pub keeping :
    {bytes : List ℕ} {l : Layout} {k : ℕ} {s : Sight} {reach : Span} {table : List EdgeFunction} {run : Run} → EdgesAsked l k s reach table → CornersAre bytes l k run →
    KeepingAsked run.count reach
keeping b at = record { eight = at.eight; shaped = b.shaped }
