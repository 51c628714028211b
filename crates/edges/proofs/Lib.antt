-- The edges of a patch by the corner that they begin at,
mod Orientation
mod Turns
mod Places
-- its corner run among those of the scene,
pub mod Runs
mod Rounds
-- and its edge functions.
mod Writes
pub mod Meeting
