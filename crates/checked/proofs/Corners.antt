-- The corners of a checked scene.
use mathlib.Core.Path.{◌≡◌, sym, ap, subst, ◌∙◌}
use mathlib.Core.List.{List, map}
use Prim.Native.Nat.{ℕ, ◌+◌, ◌≤◌, ◌<◌}
use Rattle.model.specs.Lists.{range}
use Rattle.model.specs.Patch as model
use Rattle.model.specs.Format.{decode, patch_numbered}
use Rattle.model.specs.Format as format
use Rattle.geometry.specs.Machine.{vec_of, VectorIs}
use Rattle.geometry.specs.declared.Vector.{Vector}
use Rattle.format.specs.Machine.{patch_record_of}
use Rattle.format.specs.Layout.{patch_number, corner_number}
use Rattle.format.specs.declared.layout.Layout.{Layout}
use Rattle.format.specs.declared.records.PatchRecord.{PatchRecord}
use Rattle.format.proofs.Decoded.{table_patch, patch_numbered_lem, patch_corners}
use Rattle.format.proofs.InRange.{corner_within, bounded}
use Rattle.checked.specs.Checked.{Checked, CornersAre, PatchRecordIs}

module _ {bytes : List ℕ} {l : Layout} (w : Checked bytes l) {k : ℕ} where
  -- question 3 bounds every corner
  pub corner_is : k < l.corners → {r : Vector} → vec_of r ≡ corner_number bytes l k → VectorIs 10000 (corner_number bytes l k) r
  corner_is h {r} e = record { value = e; bounded = bounded e (corner_within w.laid w.coordinates k h) }

  patch_is : k < l.patches → patch_numbered (decode bytes) k ≡ table_patch bytes l (patch_number bytes l k)
  patch_is h = patch_numbered_lem w.laid k h ∙ patch_corners w.laid k (w.inside.corners k h)

  -- the run of a patch's record names its corners
  corners_are : k < l.patches → {r : PatchRecord} → patch_record_of r ≡ patch_number bytes l k → CornersAre bytes l k r.corners
  corners_are h {r} e =
      record {
        value = ap (λ (q : format.PatchRecord). q.corner_run) e;
        three = subst (λ (q : format.PatchRecord). 3 ≤ q.corner_run.count) (sym e) (w.inside.three k h);
        eight = subst (λ (q : format.PatchRecord). q.corner_run.count ≤ 8) (sym e) (w.inside.eight k h);
        run_inside =
            subst (λ (q : format.PatchRecord). q.corner_run.first + q.corner_run.count ≤ l.corners) (sym e)
            (w.inside.corners k h).inside;
        corners_are =
            ap (λ (p : model.Patch). p.corners) (patch_is h)
            ∙ ap (λ (q : format.PatchRecord). map (corner_number bytes l) (range q.corner_run.first q.corner_run.count)) (sym e);
      }

  pub record_is : k < l.patches → {r : PatchRecord} → patch_record_of r ≡ patch_number bytes l k → PatchRecordIs bytes l k r
  record_is h e =
      record {
        value = e;
        panel_is =
            ap (λ (q : format.PatchRecord). q.panel) e
            ∙ sym (ap (λ (p : model.Patch). p.panel) (patch_is h));
        corners = corners_are h e;
      }
