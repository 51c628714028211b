-- A patch of a checked scene is proper.
pub mod ProperPatches
-- The rows that a patch can be met in, and the patches that lie beside all columns.
mod BesidePlanes
mod CornerSides
mod RowsLeft
mod ColumnSides
