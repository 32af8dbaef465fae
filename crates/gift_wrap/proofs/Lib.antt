pub mod DistinctCells
pub mod Points
pub mod Around
pub mod Linked
pub mod Apexes
pub mod Meeting
pub mod Wrapping
pub mod Cited
mod Balls
