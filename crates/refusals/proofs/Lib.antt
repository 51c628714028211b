-- The questions tried at their limits.
pub mod Refusals
