-- The counts from the table of the patches' cells.
mod Adding
pub mod TableCounts
