-- What the questions tell.
pub mod Passed
