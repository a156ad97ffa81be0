pub mod BitWords
pub mod CodeWords
pub mod SymbolWords
pub mod TableWords
pub mod Readings
pub mod ElementReadings
pub mod Leading
