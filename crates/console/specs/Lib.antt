-- What the contracts of reading and writing cite.
pub mod Reading
pub mod Writing
