-- What the contract says of a refusal, of the same station and camera, and of the whole-number station.
pub mod Refusal
pub mod SameStation
