pub mod Crcs
pub mod Signs
pub mod Joins
