-- The nodes, patches and corners of a scene that passed the questions which reading it stands on.
pub mod Rooted
pub mod Subtrees
pub mod Nodes
pub mod Corners
