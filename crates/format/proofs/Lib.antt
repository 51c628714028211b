-- Laws of the byte format.
pub mod Decoded
mod Made
pub mod Sections
pub mod PatchRecords
mod Places
pub mod InRange
pub mod Words
pub mod Ranges
