-- Laws of turns by two coordinates.
pub mod ReadRound
pub mod Projected
pub mod Asked
