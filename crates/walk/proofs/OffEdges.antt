-- In an accepted scene a cell whose sight line runs along no edge holds what its sight line itself shows: the lines just beside matter at joints alone.
use mathlib.Core.Path.{◌≡◌, refl, sym, ap, ap₂, ◌∙◌}
use mathlib.Core.Logic.{◌≢◌}
use mathlib.Core.Bool.{Bool, cond}
use mathlib.Core.List.{List, [], ◌∷◌, Memᴰ}
use mathlib.Core.Option.{Option, some}
use Prim.Native.Nat.{ℕ}
use lib.Dec.{T}
use lib.IntN.{pos}
use Rattle.model.specs.Vector.{Vec}
use Rattle.model.specs.Patch.{Patch, Edge, edges}
use Rattle.model.specs.Ray.{edge_vector, edge_number, met, panel_of, closest, first_met}
use Rattle.model.specs.View.{View, direction}
use Rattle.model.specs.Beside.{cell_line}
use Rattle.model.specs.Format.{decode, patch_table}
use Rattle.model.specs.Questions.{view_in_range, axes_proper}
use Rattle.model.specs.Accepted.{AcceptedScene}
use Rattle.model.proofs.PatchTables.{table_sound}
use Rattle.model.proofs.BesideCells.{off_edges_lem}
use Rattle.walk.proofs.Seen.{accepted, of_walk, first_met_closest}

-- directions that meet the same patches of a list meet one of them first
first_same :
    (eye d d' : Vec) (ps : List Patch) → ((p : Patch) → Memᴰ p ps → met eye d p ≡ met eye d' p) →
    first_met eye d ps ≡ first_met eye d' ps
unfolding first_met
first_same eye d d' [] h = refl
first_same eye d d' (p ∷ ps) h =
    ap₂ (λ (b : Bool) (o : Option Patch). cond b (some p) o) (h p (Memᴰ.head refl))
    (first_same eye d d' ps (λ q m. h q (Memᴰ.tail m)))

-- the sight line of cell (i, j) runs along no edge of a scene's patches
abbrev pub RunsOffEdges : List ℕ → View → ℕ → ℕ → Type 0
RunsOffEdges bytes v i j =
    (p : Patch) → Memᴰ p (patch_table (decode bytes)) → (e : Edge) → Memᴰ e (edges p.corners) →
    edge_number (direction v.camera i j) (edge_vector v.eye e) ≢ pos 0

module _ {bytes : List ℕ} (h : AcceptedScene bytes) (v : View) (view : T (view_in_range v)) (axes : T (axes_proper v.camera.axes)) (i j : ℕ) where
  pub off_the_edges :
      RunsOffEdges bytes v i j →
      closest v.eye (cell_line v.camera i j) (patch_table (decode bytes)) ≡ closest v.eye (direction v.camera i j) (patch_table (decode bytes))
  off_the_edges off =
      sym (first_met_closest (decode bytes) (accepted h) v.eye (cell_line v.camera i j))
      ∙ ap panel_of
      (first_same v.eye (cell_line v.camera i j) (direction v.camera i j) _
      (of_walk (decode bytes) (accepted h) v.eye (λ (p : Patch). met v.eye (cell_line v.camera i j) p ≡ met v.eye (direction v.camera i j) p)
      (λ p m. off_edges_lem v view axes (table_sound h) i j p m (off p m))))
      ∙ first_met_closest (decode bytes) (accepted h) v.eye (direction v.camera i j)
