pub mod Cited
pub mod GridLaws
