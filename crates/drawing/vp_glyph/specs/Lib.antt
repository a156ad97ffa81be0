-- The rules.
pub mod Headers
pub mod Grammar
pub mod Reading
pub mod Sheets
pub mod Cells
pub mod Texts
pub mod Blocks
-- What the code keeps.
pub mod Layouts
pub mod Above
pub mod Inked
pub mod Parts
pub mod Stretches
pub mod Halves
pub mod Kept
pub mod Memory
pub mod Runs
