-- This serves the functions' proofs.
mod Painting
-- For callers: a list of zeros, and a list cleared in a loop,
pub mod Clearing
-- and the numbers of a table, added.
pub mod Adding
