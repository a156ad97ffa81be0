-- The rules.
pub mod Dots
pub mod Words
pub mod Painting
pub mod Places
pub mod Headers
pub mod Images
pub mod Faults
pub mod Listing
-- What the code keeps.
pub mod Swaps
pub mod Squares
pub mod Handles
