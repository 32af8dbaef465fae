pub mod Holes
pub mod Cited
