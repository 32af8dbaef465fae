pub mod Planned
pub mod Moved
pub mod Cited
