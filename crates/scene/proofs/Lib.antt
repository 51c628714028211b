-- Laws of questions 4, 6 and 7.
mod OffOneLine
mod Following
pub mod RunTables
mod NeverFalling
