pub mod Storing
pub mod InRange
pub mod PartsInRange
pub mod Among
pub mod Idle
