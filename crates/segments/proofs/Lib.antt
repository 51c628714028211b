-- `Sets` (the segments of a set of columns), `Rows` (its row), `Mapped` (its words of the lit map), `Cut` and `Remains` (the segments that a span leaves), `Looking` (how many laying it looks at), `Painting` (painted
-- cells), `Tallies` (how many columns of a set there are), `Numbers` (a row's numbers, pair by pair), `Full` (the row of a set that is empty, and of all columns), `First` (what its first pairs
-- say of the unlit columns).
pub mod Tests
pub mod Segments
pub mod Sets
pub mod Rows
pub mod Mapped
pub mod Cut
pub mod Remains
pub mod Painting
pub mod Tallies
pub mod Numbers
pub mod Full
pub mod First
pub mod Looking
mod Examples
