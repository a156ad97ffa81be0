-- The rules.
pub mod Bits
pub mod Codes
pub mod Tokens
pub mod Zlib
pub mod Crc
pub mod File
-- What the code keeps.
pub mod Kept
