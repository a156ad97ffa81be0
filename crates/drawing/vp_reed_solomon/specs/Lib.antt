pub mod Fields
pub mod Polynomials
