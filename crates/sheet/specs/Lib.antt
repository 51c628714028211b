-- What a bill is made of.
pub mod Sheet
