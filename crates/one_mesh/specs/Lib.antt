pub mod Applied
pub mod Opened
pub mod Gathered
