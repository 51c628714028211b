-- Rows written one after the other.
pub mod Writing
