-- For callers: `Moves` says what a pair of a row holds. The rest serves the functions' proofs.
pub mod Moves
mod Carrying
mod Shifting
mod Used
