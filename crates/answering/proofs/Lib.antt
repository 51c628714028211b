-- The answer of a call.
mod Gates
