-- Laws on the lines of rows.
mod Rooms
mod Used
pub mod Examples
