-- The rules.
pub mod Positions
pub mod Texts
pub mod Graphics
pub mod Symbols
pub mod Matrices
pub mod Contents
pub mod Closing
-- What the code keeps.
pub mod Rows
