-- The rules, as the guide says them.
pub mod Spelling
pub mod Commands
pub mod Arguments
pub mod Items
pub mod Runs
pub mod Lines
pub mod Laws
-- What the reader keeps, and what it shows.
pub mod Shown
pub mod Reader
pub mod Lent
