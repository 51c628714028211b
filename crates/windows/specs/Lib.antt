-- The statements about whole windows.
pub mod Windows
pub mod Covering
