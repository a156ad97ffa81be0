-- The rules, from the bytes to the modules, in the order in which they depend on each other.
pub mod Strings
pub mod Segments
pub mod Field
pub mod Polynomial
pub mod Blocks
pub mod Versions
pub mod Places
pub mod Walk
pub mod Codes
pub mod Symbol
pub mod Penalty
pub mod Encoding
pub mod Inks
-- What the code keeps.
pub mod Divisors
pub mod Grids
