-- The rules.
pub mod Base64
pub mod Check
pub mod Texts
pub mod Pictures
-- What the code keeps.
pub mod Kept
