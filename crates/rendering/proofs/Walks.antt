-- What an accepted scene gives the walk and the painting.
use mathlib.Core.Path.{◌≡◌, sym, subst, subst₂}
use mathlib.Core.List.{List}
use Prim.Native.Nat.{ℕ, ◌≤◌, ◌<◌}
use native.Mathlib.Omega.{arith}
use lib.Dec.{T}
use lib.ListN.{length, get_or}
use Rattle.model.specs.Vector.{Vec}
use Rattle.model.specs.Patch.{Patch}
use Rattle.model.specs.Tree.{order}
use Rattle.model.specs.View.{Camera}
use Rattle.model.specs.Beside.{tile_line}
use Rattle.model.specs.Format.{decode, patch_numbered, number_tree}
use Rattle.model.specs.Questions.{patch_runs_follow, corner_runs_follow, runs_proper}
use Rattle.model.proofs.Tests.{both}
use Rattle.model.proofs.Ranges.{get_d_member}
use Rattle.model.specs.Accepted.{AcceptedScene}
use Rattle.format.specs.declared.layout.Layout.{Layout}
use Rattle.format.specs.Layout.{LaidOut}
use Rattle.format.proofs.Decoded.{patch_count}
use Rattle.walk.specs.Walked.{WholeWalk}
use Rattle.walk.proofs.Whole.{walk_numbers}
use Rattle.walk.proofs.Seen.{accepted}
use Rattle.geometry.specs.declared.Raster.{Raster}
use Rattle.geometry.specs.Raster.{line_at}
use Rattle.edges.specs.declared.Sight.{Sight}
use Rattle.edges.specs.Edges.{SightBounded}
use Rattle.conversion.specs.Progress.{Paintable}
use Rattle.traversal.specs.Walk.{walk_of}
use Rattle.painting.specs.Picture.{Framed, RowsPainted}
use Rattle.conversion.specs.Booked.{Booked}
use Rattle.camera.specs.Rays.{RaysOf}
use Rattle.camera.proofs.Rays.{line_is}
use Rattle.rendering.specs.Painted.{Painted}
use Rattle.rendering.proofs.Results.{walked, painted_picture, painted_unlit, painted_lit, painted_booked}

-- rows painted along the lines of a raster with a camera's rays are painted along the lines that the camera's cells are read along
as_seen :
    {eye : Vec} {walk : List Patch} {a : Camera} {r : Raster} {cells unlit lit : List ℕ} → RaysOf a r →
    RowsPainted eye (line_at r) walk r.width r.height cells unlit lit →
    RowsPainted eye (tile_line a) walk a.tile.width a.tile.height cells unlit lit
as_seen {eye} {walk} {a} {r} {cells} {unlit} {lit} rays seen =
    subst (λ (d : ℕ → ℕ → Vec). RowsPainted eye d walk a.tile.width a.tile.height cells unlit lit) (λ t i j. line_is a rays i j t)
    (subst₂ (λ (w h : ℕ). RowsPainted eye (line_at r) walk w h cells unlit lit) rays.columns rays.rows seen)

as_booked :
    {eye : Vec} {patch : ℕ → Patch} {order : List ℕ} {a : Camera} {r : Raster} {booked : List ℕ} → RaysOf a r →
    Booked eye (line_at r) patch order r.width booked r.height →
    Booked eye (tile_line a) patch order a.tile.width booked a.tile.height
as_booked {eye} {patch} {order} {a} {r} {booked} rays counted =
    subst (λ (d : ℕ → ℕ → Vec). Booked eye d patch order a.tile.width booked a.tile.height) (λ t i j. line_is a rays i j t)
    (subst₂ (λ (w h : ℕ). Booked eye (line_at r) patch order w booked h) rays.columns rays.rows counted)

pub raster_framed :
    {a : Camera} {r : Raster} {picture unlit lit : List ℕ} → RaysOf a r → Framed a.tile.width a.tile.height picture unlit lit →
    Framed r.width r.height picture unlit lit
raster_framed {picture = picture} {unlit} {lit} rays framed =
    subst₂ (λ (w h : ℕ). Framed w h picture unlit lit) (sym rays.columns) (sym rays.rows) framed

module _ {bytes : List ℕ} {l : Layout} {eye : Vec} {front : List ℕ}
    (h : AcceptedScene bytes)
    (laid : LaidOut bytes l)
    (w : WholeWalk bytes l eye front)
  where
    runs_follow_lem : T (patch_runs_follow (decode bytes))
    unfolding runs_proper
    runs_follow_lem = ((both (patch_runs_follow (decode bytes)) (corner_runs_follow (decode bytes))).0 h.runs).0

    walk_patches : (k : ℕ) → k < length front → get_or front k 0 < l.patches
    walk_patches =
        subst (λ (ns : List ℕ). (k : ℕ) → k < length ns → get_or ns k 0 < l.patches) (sym w.holds)
        (λ k b.
        let m = walk_numbers (decode bytes) (accepted h).few_nodes h.children runs_follow_lem eye
        (get_or (order eye (number_tree (decode bytes))) k 0)
        (get_d_member (order eye (number_tree (decode bytes))) k 0 b) in
        subst (λ (c : ℕ). get_or (order eye (number_tree (decode bytes))) k 0 < c) (patch_count laid) m)

    -- the scene and its walk can be painted as they are seen
    pub walk_paintable : {s : Sight} → SightBounded s → s.raster.width ≤ 256 → s.raster.height ≤ 128 → Paintable bytes l s front
    walk_paintable bounded narrow low =
        record {
          proper = h.patches;
          sight = bounded;
          narrow = narrow;
          low = low;
          numbers = walk_patches;
          few = omega (arith, w.all, laid.few_patches);
        }

    -- what the rows show, and the cells booked, are the result
    pub painted_all :
        {a : Camera} {r : Raster} {cells unlit lit booked : List ℕ} → RaysOf a r → length booked ≡ length (decode bytes).patches →
        RowsPainted eye (line_at r) (walk_of bytes front) r.width r.height cells unlit lit →
        Booked eye (line_at r) (patch_numbered (decode bytes)) front r.width booked r.height →
        Painted bytes (record { eye = eye; camera = a }) cells unlit lit booked
    painted_all {a} {r} {cells} {unlit} {lit} {booked} rays e seen counted =
        let p : RowsPainted eye (tile_line a) (walked bytes eye) a.tile.width a.tile.height cells unlit lit =
        subst (λ (o : List ℕ). RowsPainted eye (tile_line a) (walk_of bytes o) a.tile.width a.tile.height cells unlit lit)
        w.holds (as_seen rays seen) in
        let b : Booked eye (tile_line a) (patch_numbered (decode bytes)) (order eye (number_tree (decode bytes))) a.tile.width booked a.tile.height =
        subst (λ (o : List ℕ). Booked eye (tile_line a) (patch_numbered (decode bytes)) o a.tile.width booked a.tile.height)
        w.holds (as_booked rays counted) in
        record {
          cells_are = painted_picture h eye (tile_line a) p;
          unlit_are = painted_unlit h eye (tile_line a) p;
          lit_are = painted_lit h eye (tile_line a) p;
          booked_are = painted_booked h eye (tile_line a) e b;
        }
