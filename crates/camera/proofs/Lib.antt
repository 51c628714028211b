-- A camera's directions as a raster's rays.
pub mod Rays
