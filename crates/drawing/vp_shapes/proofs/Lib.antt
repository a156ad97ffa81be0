pub mod Edges
pub mod Circles
