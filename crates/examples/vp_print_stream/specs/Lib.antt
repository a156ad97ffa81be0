-- The rules: what is printed of what is read.
pub mod Printed
