-- Fresh rows, and the rows one after the other.
mod Fresh
mod Joining
