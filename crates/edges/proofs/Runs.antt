-- The corners of a patch by its corner run.
use mathlib.Core.Path.{◌≡◌, sym, ◌∙◌, ap}
use mathlib.Core.List.{List}
use Prim.Native.Nat.{ℕ, ◌+◌, ◌<◌}
use native.Mathlib.Nat.{add-zero}
use native.Mathlib.Omega.{arith}
use lib.ListN.{length, get_or}
use Rattle.model.specs.Vector.{Vec, origin}
use Rattle.model.specs.Format.{decode, patch_numbered}
use Rattle.model.proofs.Ranges.{range_at}
use Rattle.geometry.specs.declared.Vector.{Vector}
use Rattle.geometry.specs.Machine.{vec_of, Bounded}
use Rattle.format.specs.declared.layout.Layout.{Layout}
use Rattle.format.specs.declared.records.Run as machine
use Rattle.format.specs.Layout.{corner_number}
use Rattle.model.proofs.Tables.{length_table}
use Rattle.checked.specs.Checked.{Checked, CornersAre}
use Rattle.checked.proofs.Corners.{corner_is}

module _ {bytes : List ℕ} {l : Layout} (readable : Checked bytes l) where
  pub bounded_corner : {m : ℕ} {v : Vector} → m < l.corners → vec_of v ≡ corner_number bytes l m → Bounded 10000 v
  bounded_corner h e = (corner_is readable h e).bounded

module _ {bytes : List ℕ} {l : Layout} {k : ℕ} {run : machine.Run} (at : CornersAre bytes l k run) where
  pub run_count : length (patch_numbered (decode bytes) k).corners ≡ run.count
  run_count = ap length at.corners_are ∙ length_table (corner_number bytes l) run.first run.count

  pub run_corner : (j : ℕ) → j < run.count → corner_number bytes l (run.first + j) ≡ get_or (patch_numbered (decode bytes) k).corners j origin
  run_corner j b =
      sym (ap (λ (cs : List Vec). get_or cs j origin) at.corners_are ∙ range_at (corner_number bytes l) run.first run.count j origin b)

  pub first_corner : corner_number bytes l run.first ≡ get_or (patch_numbered (decode bytes) k).corners 0 origin
  first_corner = ap (corner_number bytes l) (sym (add-zero run.first)) ∙ run_corner 0 (omega (arith, at.three))
