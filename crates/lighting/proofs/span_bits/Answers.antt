-- `span_bits` meets its contract: all ones shifted up, and all ones shifted down.
use Rattle.lighting.proofs.Spans.{span_word}
use Rattle.lighting.proofs.span_bits.Goals as goal

pub returns : goal.returns
returns c = span_word c.args.base c.args.first c.args.last c.requires.0 c.requires.1 c.saturating_sub.ensures c.min.ensures
