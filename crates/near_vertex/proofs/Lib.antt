pub mod Order
pub mod Around
pub mod Starts
