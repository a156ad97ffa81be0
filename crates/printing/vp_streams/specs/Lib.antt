-- The rules: how calls are counted.
pub mod Count
