-- `Reached`: the worst spans reach their bounds, each and together, and none are worse; what the sum is.
mod Comb
pub mod Reached
mod Laying
mod Examples
