pub mod OpeningLaws
pub mod Cited
