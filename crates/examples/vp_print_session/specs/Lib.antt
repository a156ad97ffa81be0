-- The rules: what is written of what is read.
pub mod Written
