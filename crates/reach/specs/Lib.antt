-- What the crate's contracts cite.
pub mod Planes
pub mod Reach
pub mod Columns
