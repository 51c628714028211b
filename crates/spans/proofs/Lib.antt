-- The laws of spans, from plain numbers to rows of edge functions.
mod HalfLine
pub mod Clipping
pub mod RowFunctions
pub mod Rows
-- Columns that are lit already need not be told apart.
mod BesideLit
