-- What a plane says of the patches below it.
mod Placed
mod Branches
mod SettledBelow
mod EveryNode
