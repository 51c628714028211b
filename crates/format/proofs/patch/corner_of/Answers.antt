use mathlib.Core.Path.{refl, ◌∙◌}
use mir.Syntax.{w16}
use Rattle.little_endian.proofs.TwosComplement.{through}
use Rattle.format.proofs.Made.{vec_made}
use Rattle.format.proofs.patch.corner_of.Goals as goal

pub returns : goal.returns
returns c =
    c.vector.ensures
    ∙ vec_made (through w16 c.vector-arg-1.given refl)
    (through w16 c.vector-arg-2-1.given refl)
    (through w16 c.vector-arg-3-1.given refl)
