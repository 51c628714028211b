-- Laws for the proofs of this crate and of its callers.
pub mod Results
pub mod Zeros
pub mod Sizes
pub mod CountsIn
pub mod EdgeNumbers
