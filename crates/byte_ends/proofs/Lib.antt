pub mod Told
pub mod MemoryEnds
pub mod Cited
