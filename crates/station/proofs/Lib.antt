-- A double by its bits, and what a station's doubles tell together.
mod Rounding
mod Fields
mod Doubles
mod Locating
