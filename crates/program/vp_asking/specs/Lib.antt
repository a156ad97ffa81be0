pub mod InC
pub mod Next
