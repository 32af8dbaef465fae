pub mod Corners
pub mod Links
pub mod Powers
pub mod JudgedByLink
pub mod Opposite
pub mod Cited
