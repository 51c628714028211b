use Rattle.format.proofs.Made.{patch_made}
use Rattle.format.proofs.records.patch_record_at.Goals as goal

pub returns : goal.returns
returns c = patch_made _ _ c.u16_at.ensures.value c.u16_at-2.ensures.value c.u16_at-3.ensures.value
