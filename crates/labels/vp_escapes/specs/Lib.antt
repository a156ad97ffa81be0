-- The rules.
pub mod Escapes
-- What the laws are said with.
pub mod Laws
