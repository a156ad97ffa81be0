-- The rules, from a symbol in hand to the symbol of bytes and its dots.
pub mod Symbols
pub mod Encoding
pub mod Inks
