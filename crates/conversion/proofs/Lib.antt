-- The cells booked to patches while a picture is painted patch after patch.
pub mod FirstBooked
mod Totals
pub mod PatchBooked
pub mod Parts
mod Painting
mod Steps
