pub mod Faults
pub mod Steps
pub mod Helds
pub mod Answers
pub mod Making
pub mod Printing
pub mod Texts
