-- The rules.
pub mod Copies
-- What the code keeps.
pub mod Progress
pub mod Standing
