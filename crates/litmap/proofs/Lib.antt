-- The bits of words, and a row of the map.
mod Bits
mod Rows
