-- What the contracts of this crate cite: laying a span on one segment, and the parts that it is made of.
pub mod Step
