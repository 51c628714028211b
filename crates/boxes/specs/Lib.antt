-- What the crate's contracts cite.
pub mod Boxes
pub mod Enclosed
