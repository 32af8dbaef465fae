pub mod Dealing
pub mod Cutting
