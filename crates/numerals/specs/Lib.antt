-- What the contracts of this crate cite: texts one after the other.
pub mod Listing
