-- What the crate's contracts cite.
pub mod Tests
pub mod Bounds
