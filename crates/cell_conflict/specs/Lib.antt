pub mod Judging
pub mod Searching
