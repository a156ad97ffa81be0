-- The rules, from the bytes to the modules, in the order in which they depend on each other.
pub mod Sizes
pub mod Ascii
pub mod Triples
pub mod Edifact
pub mod Base256
pub mod Messages
pub mod Pads
pub mod Blocks
pub mod Placement
pub mod Modules
pub mod Encoding
pub mod Inks
-- What the code keeps.
pub mod Grids
