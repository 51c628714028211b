-- What an input of the programs says.
pub mod Input
