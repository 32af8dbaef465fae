pub mod Tables
pub mod Composing
pub mod Filling
pub mod Exploration
pub mod Advancing
pub mod Cited
