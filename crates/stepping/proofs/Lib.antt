-- What a span leaves of one segment.
pub mod Keeping
pub mod Stepping
