-- the rules of every language, and of each; the images of receipts and labels
pub mod Bytes
pub mod Paper
pub mod Offsets
pub mod Setups
pub mod Images
-- what a printer, a session and a listing do
pub mod Stands
pub mod Answers
pub mod Memory
pub mod Work
pub mod Session
pub mod Listing
-- what the code keeps
pub mod Lines
pub mod Machines
pub mod Takes
