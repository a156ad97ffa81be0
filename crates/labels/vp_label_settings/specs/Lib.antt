-- The rules.
pub mod Ranges
pub mod Formats
pub mod Settings
pub mod Choices
pub mod Graphics
pub mod Parts
pub mod Refusals
pub mod Laws
-- What the code keeps.
pub mod Standing
