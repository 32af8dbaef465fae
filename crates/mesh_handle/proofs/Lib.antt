pub mod Pointers
pub mod Handles
pub mod Places
pub mod Turns
