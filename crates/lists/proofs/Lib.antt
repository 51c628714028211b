-- Rows one after the other.
pub mod Written
