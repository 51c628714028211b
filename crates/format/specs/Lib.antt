-- What the crate's contracts cite: machine values as the model's, and where the records of a scene lie.
pub mod Machine
pub mod Layout
pub mod Patch
