pub mod Draws
pub mod Wholes
