-- The rules.
pub mod Entries
pub mod Refusals
pub mod Prints
pub mod Images
pub mod Held
pub mod Work
pub mod Bytes
pub mod Memory
-- What the code keeps.
pub mod Effects
pub mod Gathered
pub mod Press
pub mod Standing
pub mod Printing
