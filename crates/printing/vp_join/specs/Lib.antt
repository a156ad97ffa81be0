-- The rules: images one after the other, the one image that they make, and why a text is no such images.
pub mod Strips
-- What the code keeps: what a text tells byte by byte, where a reading of it stands, and what each pass did.
pub mod Told
pub mod Standing
pub mod Passes
