-- The rules.
pub mod PageMarks
pub mod Strips
pub mod Images
pub mod Work
pub mod Memory
-- What the code keeps.
pub mod Standing
pub mod Effects
pub mod Printer
pub mod Plain
