-- The rules: the picture of a joined image, and what a call that joins images to one comes to.
pub mod Pictures
-- What the code keeps.
pub mod Kept
