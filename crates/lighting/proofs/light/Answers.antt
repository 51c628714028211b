-- `light` meets its contract: a span has no column below the width, or a last one there.
use Prim.Native.Nat.{◌-◌}
use native.Mathlib.Omega.{arith}
use Rattle.lighting.proofs.Spans.{lights_none, lights_within}
use Rattle.lighting.proofs.light.Goals as goal

pub returns-then-start-end : goal.returns-then-start-end
returns-then-start-end c =
    lights_within c.args.width c.args.first c.args.last (c.min-end.result - 1) (omega arith) (rw c.from-start.ensures at c.light_words.ensures)

pub returns-else-start-end : goal.returns-else-start-end
returns-else-start-end c = lights_none c.args.width c.args.first c.args.last (omega arith)
