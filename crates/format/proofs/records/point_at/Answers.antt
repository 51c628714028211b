use mir.Syntax.{w16}
use Rattle.little_endian.proofs.TwosComplement.{through}
use Rattle.format.proofs.Made.{point_made}
use Rattle.format.proofs.records.point_at.Goals as goal

pub returns : goal.returns
returns c =
    point_made _ _ c.vector.ensures
    (through w16 c.i16_at.type_inv c.i16_at.ensures)
    (through w16 c.i16_at-2.type_inv c.i16_at-2.ensures)
    (through w16 c.i16_at-3.type_inv c.i16_at-3.ensures)
