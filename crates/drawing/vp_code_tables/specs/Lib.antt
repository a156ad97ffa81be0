-- Code tables and national sets, and what the numbers of commands mean.
pub mod Parts
pub mod Tables
pub mod Sets
pub mod Numbers
-- Unicode's encodings.
pub mod Utf8
pub mod Utf16
-- Which characters bytes are.
pub mod Units
-- What the decoder keeps.
pub mod Begun
pub mod Standing
-- What the laws say.
pub mod Laws
