pub mod Digs
pub mod Turns
pub mod Fills
pub mod Both
pub mod Exploring
pub mod Lists
pub mod Tables
