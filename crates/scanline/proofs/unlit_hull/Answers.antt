-- `unlit_hull` meets its contract: what the row's first two pairs say of its unlit columns.
use Rattle.scanline.proofs.Hull.{hull_on, hull_only}
use Rattle.scanline.proofs.unlit_hull.Goals as goal

pub returns-then-pairs-eq0 : goal.returns-then-pairs-eq0
returns-then-pairs-eq0 c = hull_only c.requires c.if-pairs-eq0.true

pub returns : goal.returns
returns c = hull_on c.requires
