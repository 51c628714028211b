-- Laws of refusals.
pub mod HandedOn
