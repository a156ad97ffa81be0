pub mod Widths
pub mod Gathering
pub mod Storing
pub mod Runs
pub mod WholeRows
pub mod Followed
pub mod Within
