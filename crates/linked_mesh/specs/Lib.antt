pub mod Applied
pub mod Moves
pub mod Takes
