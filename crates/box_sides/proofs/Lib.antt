-- When an extent answers for all its patches.
mod BoxCorners
mod BoxTold
mod BoxSides
