use mathlib.Core.Path.{ap, ◌∙◌}
use native.Mathlib.Omega.{arith}
use Rattle.polygons.specs.Tests.{patch_proper}
use Rattle.convexity.proofs.TableCorners.{read_bounded, few_in}
use Rattle.convexity.proofs.few_from.Goals as goal

pub few_proper-requires : goal.few_proper-requires
few_proper-requires g c =
    let (s, inside, three, four) = c.requires in
    (omega arith, read_bounded c.loop-k.invariant c.loop-k-test.false s.laid s.coordinates inside three four)

pub returns : goal.returns
returns g c = c.few_proper.ensures ∙ ap patch_proper (few_in c.loop-k.invariant c.loop-k-test.false)
