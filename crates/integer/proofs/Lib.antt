-- Whole-number algebra: the ring laws, identities proved by computation, order and signs.
pub mod Ring
pub mod Polynomial
pub mod Identity
mod IdentityTests
pub mod Order
pub mod Products
pub mod Signs
mod SignTests
pub mod Magnitude
pub mod Machine
pub mod Comparison
