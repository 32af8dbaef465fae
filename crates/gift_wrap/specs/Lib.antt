pub mod Near
pub mod Wraps
pub mod Balls
