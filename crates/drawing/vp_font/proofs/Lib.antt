pub mod Numbers
pub mod Lines
pub mod RowBytes
pub mod Reading
pub mod Glyphs
pub mod Ordered
