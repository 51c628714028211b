-- Cuttings that cover the same points show the same.
pub mod Covered
pub mod Points
pub mod Hull
pub mod Generic
pub mod MetPoint
pub mod Agreement
pub mod SameCells
pub mod Rectangles
