-- Laws on the bill.
pub mod Bills
pub mod Examples
