-- What the contracts of this crate cite: a row as a line of text, and what is told of a span that is laid.
pub mod Line
pub mod Told
