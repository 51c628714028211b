-- Laws on text.
mod Decimals
pub mod Readings
pub mod Lengths
