-- The tree that a scene's nodes spell holds just the scene's patches.
mod Sums
mod Runs
pub mod Whole
mod Carried
mod NearSide
mod Descents
pub mod Seen
pub mod Numbered
pub mod OffEdges
mod Examples
