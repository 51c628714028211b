-- What the crate's contracts cite.
pub mod Walked
pub mod Near
