-- Numbers of two bytes, signed.
pub mod TwosComplement
