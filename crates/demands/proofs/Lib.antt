-- Demands 1 to 3 and two cuttings, from the survey's contract.
pub mod Demands
