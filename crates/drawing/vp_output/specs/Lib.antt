-- The rules.
pub mod Lines
pub mod Places
