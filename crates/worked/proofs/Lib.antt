-- Stations and cuttings worked on the definitions, pairs of calls that meet all that the demands ask of two, and tiles that meet all that whole windows ask.
pub mod Stations
pub mod Examples
pub mod Pairs
pub mod Tiles
