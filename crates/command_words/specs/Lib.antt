pub mod Words
pub mod Built
pub mod Tasks
pub mod Lines
pub mod Stops
