pub mod Matches
pub mod Program
