pub mod Leaving
pub mod Plans
