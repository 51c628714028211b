-- Laws of question 8 of a patch in hand.
mod Edges
pub mod Corners
pub mod Axes
pub mod Along
