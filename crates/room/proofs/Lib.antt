-- Laws that the proofs of this crate cite.
mod Told
