pub mod Words
pub mod TripleWords
pub mod EdifactWords
pub mod SchemeWords
pub mod SizeTable
pub mod BlockWords
pub mod Laid
pub mod Regions
