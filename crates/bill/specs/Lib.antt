-- The bill.
pub mod Bill
