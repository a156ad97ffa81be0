-- The rules of fields.
pub mod Places
pub mod Turning
pub mod Standing
pub mod Frames
pub mod Matrices
pub mod Contents
pub mod Views
pub mod Strokes
pub mod Fields
pub mod Bands
pub mod Laws
pub mod Sizes
-- What the code keeps.
pub mod Axes
pub mod Counts
pub mod Rows
pub mod Drawn
pub mod Alone
