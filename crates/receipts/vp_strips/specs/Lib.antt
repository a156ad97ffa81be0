-- The rules.
pub mod LineDots
pub mod Rows
-- What the code keeps.
pub mod SymbolInks
pub mod Canvases
pub mod Jobs
pub mod Held
