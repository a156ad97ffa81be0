pub mod Next
pub mod Building
