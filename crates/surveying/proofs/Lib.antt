-- What an accepted call leaves.
mod Calls
