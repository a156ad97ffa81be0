pub mod FieldLaws
pub mod Division
