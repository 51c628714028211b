-- The worst case of laying spans.
pub mod WorstCase
