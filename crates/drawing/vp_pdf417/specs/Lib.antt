-- The rules, from the bytes to the modules, in the order in which they depend on each other.
pub mod Text
pub mod Places
pub mod Bytes
pub mod Numeric
pub mod Messages
pub mod Sizes
pub mod Codewords
pub mod Patterns
pub mod Modules
pub mod Encoding
pub mod Inks
-- What the code keeps.
pub mod Written
