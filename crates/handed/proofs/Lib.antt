-- A station and a camera that were handed over in words.
pub mod Handed
