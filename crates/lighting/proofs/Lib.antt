-- The bits of words, and spans lit in a row's words.
mod Bits
mod Spans
