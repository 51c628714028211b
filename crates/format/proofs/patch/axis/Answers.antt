use mathlib.Core.Path.{refl}
use mir.Syntax.{w16}
use Rattle.little_endian.proofs.TwosComplement.{through}
use Rattle.format.proofs.Places.{none_filled, one_filled, all_filled}
use Rattle.format.proofs.patch.axis.Goals as goal

pub loop-k-init : goal.loop-k-init
loop-k-init c = none_filled _ _ _ refl

pub loop-k-preserved : goal.loop-k-preserved
loop-k-preserved c =
    one_filled _ _ _ c.loop-k.invariant c.loop-k-test.true c.requires.1
    (through w16 c.i16_at.type_inv c.i16_at.ensures)

pub returns : goal.returns
returns c = all_filled c.loop-k.invariant c.loop-k-test.false
