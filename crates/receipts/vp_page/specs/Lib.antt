-- The rules.
pub mod Areas
pub mod Lines
pub mod Layers
pub mod Laws
-- What the code keeps.
pub mod Work
pub mod Halves
pub mod Pages
