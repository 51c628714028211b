-- `format::patch::read_patch` meets its contract: the record's run is known where the offset of its first corner is computed.
use native.Mathlib.Omega.{arith}
use Rattle.format.proofs.Places.{run_known, patch_found}
use Rattle.format.proofs.patch.read_patch.Goals as goal

pub corner_offset-requires : goal.corner_offset-requires
corner_offset-requires c =
    omega (arith, run_known c.args.scene.now.laid_out c.requires.0 c.requires.1 c.patch_record-p.ensures)

pub patch_from-requires : goal.patch_from-requires
patch_from-requires c =
    let known = run_known c.args.scene.now.laid_out c.requires.0 c.requires.1 c.patch_record-p.ensures in
    rw c.corner_offset.ensures (omega (arith, known.room), known.three, known.eight)

pub returns : goal.returns
returns c =
    patch_found c.args.scene.now.laid_out c.requires.0 c.requires.1 c.patch_record-p.ensures
    (rw c.corner_offset.ensures at c.patch_from.ensures)
