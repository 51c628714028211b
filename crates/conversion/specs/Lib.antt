-- What the crate's contracts cite.
pub mod Canvas
pub mod Booked
pub mod Progress
