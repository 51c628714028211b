-- A numbered patch of a scene that passed question 3 is in range, and where it passed 6 and 8 the patch is proper.
use mathlib.Core.List.{List, Memᴰ}
use Prim.Native.Nat.{ℕ, ◌<◌}
use lib.Dec.{T}
use Rattle.model.specs.Patch.{Proper}
use Rattle.model.specs.Format.{decode, patch_numbered, patch_table}
use Rattle.model.specs.Questions.{patches_proper}
use Rattle.model.proofs.Alike.{Ranged}
use Rattle.format.specs.declared.layout.Layout.{Layout}
use Rattle.format.proofs.Decoded.{patch_count}
use Rattle.checked.specs.Checked.{Checked}
use Rattle.model.proofs.PatchTables.{numbered_listed, table_proper, table_ranged}

listed : {bytes : List ℕ} {l : Layout} → Checked bytes l → (k : ℕ) → k < l.patches → Memᴰ (patch_numbered (decode bytes) k) (patch_table (decode bytes))
listed {bytes} readable k h = numbered_listed (decode bytes) k (rw (patch_count readable.laid) h)

pub numbered_proper :
    {bytes : List ℕ} {l : Layout} → Checked bytes l → T (patches_proper (decode bytes)) → (k : ℕ) → k < l.patches →
    Proper (patch_numbered (decode bytes) k)
numbered_proper {bytes} readable t k h =
    table_proper (decode bytes) readable.runs t (patch_numbered (decode bytes) k) (listed readable k h)

pub numbered_ranged : {bytes : List ℕ} {l : Layout} → Checked bytes l → (k : ℕ) → k < l.patches → Ranged (patch_numbered (decode bytes) k)
numbered_ranged {bytes} readable k h =
    table_ranged (decode bytes) readable.coordinates (patch_numbered (decode bytes) k) (listed readable k h)
