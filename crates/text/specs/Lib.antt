-- Text, as the bytes that a program writes.
pub mod Text
pub mod Put
