-- `light_words` meets its contract: the span is lit in the words before word k.
use Rattle.lighting.proofs.Spans.{LitUpTo}
use Rattle.lighting.proofs.light_words.Given as goal

abbrev pub invariant-loop-k : goal.invariant-loop-k
invariant-loop-k l = LitUpTo l.first l.last l.initial.words l.words l.k
