-- The rules.
pub mod Meeting
pub mod Laws
-- What the code keeps.
pub mod Kept
pub mod Standing
