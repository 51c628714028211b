-- Functions kept, and rows left, one function after the other.
pub mod Keeping
