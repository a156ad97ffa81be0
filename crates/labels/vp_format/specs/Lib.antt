-- The rules of pictures.
pub mod Codes
pub mod Pictures
pub mod Reads
-- What a format holds.
pub mod Formats
-- What the code keeps.
pub mod Cursors
