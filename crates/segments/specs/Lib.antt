-- Lists of segments, the row of a list, what a span of columns leaves of it, and how many of them laying the span looks at.
pub mod Columns
pub mod Segments
pub mod Looks
