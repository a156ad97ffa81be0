pub mod DarkRuns
pub mod Encodings
