pub mod Around
pub mod Turns
pub mod Laws
