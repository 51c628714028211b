-- All segments, one after the other.
mod Passing
mod Sweeping
mod Sweeps
