-- The statements of demands 1 to 3, and of two cuttings.
pub mod Demands
