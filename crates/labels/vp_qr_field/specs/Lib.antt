-- The rules.
pub mod Fronts
