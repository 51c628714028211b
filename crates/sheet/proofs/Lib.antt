-- Laws on the lines of a bill.
mod Panels
mod Rooms
pub mod Examples
