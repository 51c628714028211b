use Rattle.format.proofs.Sections.{header_inside, layout_of}
use Rattle.format.proofs.scene.Scene.read.Goals as goal

pub read_header-h-requires : goal.read_header-h-requires
read_header-h-requires c = header_inside _ c.requires.0

pub invariant_of-result : goal.invariant_of-result
invariant_of-result c = record { laid_out = layout_of _ c.requires c.read_header-h.ensures }
