-- What a row shows while a walk is painted.
pub mod FirstShown
-- the unlit columns' hull, a patch, a row
mod Hull
pub mod Columns
mod PatchLaying
pub mod WalkPainted
