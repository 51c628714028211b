-- `lit_gap` meets its contract: what the row's first two pairs say of the columns between them.
use Rattle.scanline.proofs.Hull.{gap_lit, gap_as}
use Rattle.scanline.proofs.lit_gap.Goals as goal

pub returns : goal.returns
returns c =
    gap_as c.pair_at-one.ensures c.pair_at-two.ensures (gap_lit c.requires)
