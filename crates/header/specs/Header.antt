-- The machine's header as the model's.
use Rattle.std.specs.Prelude.{◌≡◌, ◌<◌}
use Rattle.model.specs.Format as model
use Rattle.header.specs.declared.Section.{Section}
use Rattle.header.specs.declared.Header.{Header}

abbrev pub section_of : Section → model.Section
section_of s = record { offset = s.offset; size = s.size }

-- the machine's section r is s; both its numbers have 32 bits, so that their sum does not wrap
pub record SectionIs (s : model.Section) (r : Section) : Type 0 where
  pub value : section_of r ≡ s
  pub offset_below : r.offset < 4294967296
  pub size_below : r.size < 4294967296

-- the machine's header r is h
pub record HeaderIs (h : model.Header) (r : Header) : Type 0 where
  pub version : r.version ≡ h.version
  pub reserved : r.reserved ≡ h.reserved
  pub whole : r.whole ≡ h.whole
  pub nodes : SectionIs h.node_section r.nodes
  pub patches : SectionIs h.patch_section r.patches
  pub corners : SectionIs h.corner_section r.corners
