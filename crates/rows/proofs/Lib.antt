-- For callers: `Laws` (rows under work that are laid on). `Same` says that map and list describe the same cells; the others serve the functions' proofs.
mod Full
pub mod Laws
pub mod Same
mod Used
