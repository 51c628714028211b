-- `light_words` meets its contract: the span is lit in the words before word k.
use mathlib.Core.Path.{refl}
use native.Mathlib.Omega.{arith}
use Rattle.lighting.proofs.Spans.{light_starts, light_goes, light_ends}
use Rattle.lighting.proofs.light_words.Goals as goal

pub loop-k-init : goal.loop-k-init
loop-k-init c = light_starts c.args.first c.args.last _ refl

pub span_bits-requires : goal.span_bits-requires
span_bits-requires c = omega (arith, c.loop-k.invariant.reached)

pub loop-k-preserved : goal.loop-k-preserved
loop-k-preserved c = light_goes _ _ c.loop-k.k (omega arith) c.span_bits.ensures c.loop-k.invariant

pub returns : goal.returns
returns c = light_ends _ _ c.loop-k.k (omega arith) c.loop-k.invariant
