-- What the crate's contracts cite.
pub mod Bits
pub mod Machine
