-- What the contracts of this crate cite: laying a span.
pub mod Laid
