-- Extents of patches and of nodes.
mod ExtentLaws
pub mod NodeBoxes
