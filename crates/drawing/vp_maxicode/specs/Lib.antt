-- The rules, from the bytes to the modules, in the order in which they depend on each other.
pub mod Characters
pub mod Messages
pub mod Primaries
pub mod Labels
pub mod Codewords
pub mod Places
pub mod Modules
pub mod Encoding
pub mod Inks
-- What the code keeps.
pub mod Written
