-- Which fields meet a band, and how they are threaded.
pub mod Threads
-- What the code keeps.
pub mod Held
