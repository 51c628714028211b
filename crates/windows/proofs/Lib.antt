-- Whole windows from tiles, from the survey's contract.
pub mod TileSums
pub mod TileCalls
pub mod WholeWindow
pub mod Compared
pub mod Covering
