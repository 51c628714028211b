-- `lay_patch` meets its contract: the unlit columns of its span are those where the functions are above 0.
use Rattle.scanline.proofs.PatchLaying.{functions_laid}
use Rattle.scanline.proofs.lay_patch.Goals as goal

pub returns : goal.returns
returns c = functions_laid c.unlit_hull-hull.ensures c.lit_gap-lit.ensures c.row_span-span.ensures c.lay_span.ensures
