use mathlib.Core.Path.{refl}
use Prim.Native.Nat.{◌+◌}
use native.Mathlib.Omega.{arith}
use Rattle.std.proofs.Common.{rules, tests}
use Rattle.std.proofs.lemmas.Iterator.{YieldsList-from_range}
use Rattle.std.proofs.lemmas.Iterator.Search.{all_from_yields_List}
use Rattle.model.specs.Format.{decode, patch_numbered}
use Rattle.format.proofs.Ranges.{all_numbered}
use Rattle.halfspaces.specs.Sides.{held}
use Rattle.halfspaces.proofs.held.run_held.Goals as goal

pub returns : goal.returns
returns c =
    let run = c.args.run in
    all_numbered (held c.args.plane c.args.wanted) (patch_numbered (decode c.args.scene.now.bytes.now)) run.first run.count
    (all_from_yields_List _ _ _ _ c.all.ensures.ran (YieldsList-from_range run.first (run.first + run.count) run.count refl (omega arith))
    (λ x b q k. search (rules, tests))) refl
