pub mod Turned
pub mod Cited
