-- The contract of the exported calls.
pub mod Contract
