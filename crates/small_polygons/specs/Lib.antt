-- What the crate's contracts cite.
pub mod Few
